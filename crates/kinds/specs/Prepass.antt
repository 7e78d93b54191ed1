-- From a sheet of any kind to the core's inputs, subframe after subframe, before the core: no gain and no lag depends on a sample. Every sheet comes to the same: the
-- inputs of its frame, and the concealment and the past energies after it.
use Rattle.std.specs.Prelude.{Bool, List, [], ◌∷◌, ℕ, suc, ℤ, pos}
use Rattle.lists.specs.Lists.{eq_z}
use Rattle.pitch.specs.Lag.{Lag}
use Rattle.excitation.specs.Excitation.{sharpening}
use Rattle.decoder.specs.Inputs.{SubframeInputs, FrameInputs}
use Rattle.state.specs.declared.Concealment.{Concealment}
use Rattle.state.specs.declared.State.{State}
use Rattle.kinds.specs.declared.GainMemory.{GainMemory}
use Rattle.kinds.specs.Sheet.{lsfs_of, innovation_at}
use Rattle.kinds.specs.Kind.{SubframeGains, Kind}

-- ---- a subframe: its inputs, and what goes on to the next
pub record Step : Type 0 where
  pub inputs : SubframeInputs
  pub memory : GainMemory

-- with its lag, its innovation and its gains: to the next go the sharpening that the gains used leave, the energies, and the concealment
abbrev pub step_with : Lag → List ℤ → SubframeGains → Step
step_with lag innovation g =
    record {
      inputs = record { lag = lag; pitch = g.used.gains.pitch.0; code = g.used.gains.code.0; innovation = innovation };
      memory = record { sharpening = record { 0 = sharpening g.used.gains.pitch.0 }; gain_decoder = g.gain_decoder; concealment = g.used.next };
    }

abbrev pub kind_step : Kind → List ℤ → Bool → ℕ → Lag → GainMemory → Step
kind_step kind sheet erased k lag m = step_with lag (innovation_at kind.first sheet k) (kind.gains sheet erased k lag m)

-- all from k on, with their lags
pub record Steps : Type 0 where
  pub subframes : List SubframeInputs
  pub memory : GainMemory

abbrev pub steps : (ℕ → Lag → GainMemory → Step) → ℕ → List Lag → GainMemory → Steps
steps step k [] m = record { subframes = []; memory = m }
steps step k (lag ∷ lags) m =
    let first = step k lag m in
    let rest = steps step (suc k) lags first.memory in
    record { subframes = first.inputs ∷ rest.subframes; memory = rest.memory }

-- ---- a frame
-- old_T0: the whole samples of the last of the lags; t where there is none
abbrev pub last_lag : ℤ → List Lag → ℤ
last_lag t [] = t
last_lag t (lag ∷ lags) = last_lag lag.samples lags

-- prev_bf: the frame before was erased
abbrev pub after_erased : Concealment → Bool
after_erased c = eq_z c.erased (pos 1)

-- what a sheet comes to
pub record PreparedFrame : Type 0 where
  pub inputs : FrameInputs
  pub concealment : Concealment
  pub energies : List ℤ

-- of its LSFs, its lags and its subframes, after the concealment c
abbrev pub prepared_from : Kind → List ℤ → Concealment → List Lag → Steps → PreparedFrame
prepared_from kind sheet c lags all =
    record {
      inputs = record { lsfs = lsfs_of sheet; subframes = all.subframes };
      concealment = record { last_lag = last_lag c.last_lag lags; gains = all.memory.concealment; erased = kind.mark };
      energies = all.memory.gain_decoder.energies;
    }

-- from what comes to its first subframe
unfoldable pub prepared_after : Kind → List ℤ → Concealment → GainMemory → PreparedFrame
prepared_after kind sheet c m =
    let lags = kind.lags sheet c.last_lag in
    prepared_from kind sheet c lags (steps (kind_step kind sheet (after_erased c)) 0 lags m)

-- the state's sharpening, the lent energies and the state's concealment
abbrev pub opened_memory : List ℤ → State → GainMemory
opened_memory energies s = record { sharpening = s.core.sharpening; gain_decoder = record { energies = energies }; concealment = s.concealment.gains }

abbrev pub prepared : Kind → List ℤ → List ℤ → State → PreparedFrame
prepared kind energies sheet s = prepared_after kind sheet s.concealment (opened_memory energies s)
