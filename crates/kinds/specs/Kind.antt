-- The kinds of sheets (docs/BENCH.md, "Sheets"), by what each has of its own; and, once for all, what turns a call back, in its order.
use Rattle.std.specs.Prelude.{Bool, List, ◌++◌, ℕ, ◌+◌, ℤ, pos, length}
use Rattle.lists.specs.Lists.{at}
use Rattle.pitch.specs.Lag.{Lag}
use Rattle.excitation.specs.Excitation.{sharpened}
use Rattle.outcome.specs.Outcome.{Outcome}
use Rattle.outcome.specs.Checks.{Check, first_met}
use Rattle.gain.specs.declared.GainDecoder.{GainDecoder}
use Rattle.gain.specs.declared.DecodedGains.{DecodedGains}
use Rattle.gain.specs.Gain.{decoded_gains, concealed_energies}
use Rattle.gain.specs.Checks.{table_checks, index_checks}
use Rattle.gain_concealment.specs.declared.UsedGains.{UsedGains}
use Rattle.gain_concealment.specs.Concealment.{concealed_gains, good_gains}
use Rattle.state.specs.declared.State.{State}
use Rattle.state.specs.State.{state_checks}
use Rattle.kinds.specs.declared.GainMemory.{GainMemory}
use Rattle.kinds.specs.Sheet.{lags_of, concealed_lags, gains_at, gain_indices_of, stage_of, innovation_at}
use Rattle.kinds.specs.Checks.{length_checks, lsf_checks, pitch_checks, gain_checks, stage_checks}

-- the gains that a subframe uses, with the concealment after it, and the past energies after it
pub record SubframeGains : Type 0 where
  pub used : UsedGains
  pub gain_decoder : GainDecoder

pub record Kind : Type 0 where
  -- how many numbers its sheet has, and the place of the first of its innovation
  pub count : ℕ
  pub first : ℕ
  -- the checks of its own, after those of the LSFs
  pub checks : List ℤ → List Check
  -- the lags of its four subframes, after the last lag before it
  pub lags : List ℤ → ℤ → List Lag
  -- the gains of subframe k with its lag, after an erased frame or a good one, and what the subframe before left
  pub gains : List ℤ → Bool → ℕ → Lag → GainMemory → SubframeGains
  -- the erased mark that it leaves
  pub mark : ℤ

-- ---- a frame sheet: its gains are held where the frame before was erased, and become the last good ones
abbrev pub frame_gains : List ℤ → Bool → ℕ → Lag → GainMemory → SubframeGains
frame_gains sheet erased k lag m = record { used = good_gains erased (gains_at sheet k) m.concealment; gain_decoder = m.gain_decoder }

abbrev pub frame_kind : Kind
frame_kind =
    record {
      count = 182;
      first = 22;
      checks = λ (sheet : List ℤ). pitch_checks sheet ++ gain_checks sheet;
      lags = λ (sheet : List ℤ) (last : ℤ). lags_of sheet;
      gains = frame_gains;
      mark = pos 0;
    }

-- ---- an index sheet, with the lent tables of Log2 and Pow2
-- the gains of subframe k as they come from their index: its innovation is sharpened by its lag and by the sharpening that the subframe before left
abbrev pub index_decoded : List ℤ → List ℤ → List ℤ → ℕ → Lag → GainMemory → DecodedGains
index_decoded logs pows sheet k lag m =
    decoded_gains logs pows (at sheet (14 + k)) (sharpened (innovation_at 18 sheet k) lag.samples m.sharpening.0) m.gain_decoder.energies

-- they are held and become the last good ones as a frame sheet's do; the energies have that of the index
abbrev pub index_gains : List ℤ → List ℤ → List ℤ → Bool → ℕ → Lag → GainMemory → SubframeGains
index_gains logs pows sheet erased k lag m =
    let decoded = index_decoded logs pows sheet k lag m in
    record { used = good_gains erased decoded.gains m.concealment; gain_decoder = decoded.gain_decoder }

abbrev pub index_kind : List ℤ → List ℤ → Kind
index_kind logs pows =
    record {
      count = 178;
      first = 18;
      checks = λ (sheet : List ℤ). pitch_checks sheet ++ (table_checks logs pows ++ index_checks 4 (gain_indices_of sheet));
      lags = λ (sheet : List ℤ) (last : ℤ). lags_of sheet;
      gains = index_gains logs pows;
      mark = pos 0;
    }

-- ---- an erased sheet: lags and gains are concealed, the energies stepped; the last good gains stay
abbrev pub erased_gains : List ℤ → Bool → ℕ → Lag → GainMemory → SubframeGains
erased_gains sheet erased k lag m =
    record { used = concealed_gains (stage_of sheet) m.concealment; gain_decoder = record { energies = concealed_energies m.gain_decoder.energies } }

abbrev pub erased_kind : Kind
erased_kind =
    record {
      count = 171;
      first = 11;
      checks = stage_checks;
      lags = λ (sheet : List ℤ) (last : ℤ). concealed_lags 4 last;
      gains = erased_gains;
      mark = pos 1;
    }

-- ---- these are all: an index sheet comes with its tables
pub data SheetKind : Type 0 where
  FrameSheet : SheetKind
  IndexSheet : (logs pows : List ℤ) → SheetKind
  ErasedSheet : SheetKind

abbrev pub kind_of : SheetKind → Kind
kind_of FrameSheet = frame_kind
kind_of (IndexSheet logs pows) = index_kind logs pows
kind_of ErasedSheet = erased_kind

-- ---- a call: of its sheet, of its state, and the length of the lent output (docs/BENCH.md, "Orders")
-- 1, 5, 2, 6, then its kind's own, 3 and 4, or 3, 7 and 8, or 9, then 16 to 19
abbrev pub call_checks : Kind → List ℤ → State → ℕ → List Check
call_checks kind sheet s room = length_checks kind.count (length sheet) room ++ (lsf_checks sheet ++ (kind.checks sheet ++ state_checks s))

unfoldable pub call_outcome : Kind → List ℤ → State → ℕ → Outcome
call_outcome kind sheet s room = first_met (call_checks kind sheet s room)
