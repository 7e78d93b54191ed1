-- The sharpening that goes from subframe to subframe before the core is the core's own: it opens with the state's, and after each subframe it is the one that the core leaves.
-- The theorem is `sharpening_is_core` in proofs/Sharpening.antt.
use Rattle.std.specs.Prelude.{◌≡◌, List, [], ◌∷◌, map, ℕ, suc, ℤ}
use Rattle.basicop.specs.declared.Q14.{Q14}
use Rattle.pitch.specs.Lag.{Lag}
use Rattle.decoder.specs.Core.{SubframeResult}
use Rattle.state.specs.declared.State.{State}
use Rattle.kinds.specs.declared.GainMemory.{GainMemory}
use Rattle.kinds.specs.Kind.{SheetKind, kind_of}
use Rattle.kinds.specs.Prepass.{Step, kind_step, after_erased, opened_memory, prepared}
use Rattle.mr74.specs.Frame.{core_result_of}

-- after each subframe
abbrev pub sharpenings : (ℕ → Lag → GainMemory → Step) → ℕ → List Lag → GainMemory → List Q14
sharpenings step k [] m = []
sharpenings step k (lag ∷ lags) m = let next = (step k lag m).memory in next.sharpening ∷ sharpenings step (suc k) lags next

pub record SharpeningOfCore (kind : SheetKind) (energies sheet : List ℤ) (s : State) : Type 0 where
  pub opened : (opened_memory energies s).sharpening ≡ s.core.sharpening
  pub each :
      map (λ (t : SubframeResult). t.next.sharpening) (core_result_of (prepared (kind_of kind) energies sheet s).inputs s).subframes
      ≡ sharpenings (kind_step (kind_of kind) sheet (after_erased s.concealment)) 0 ((kind_of kind).lags sheet s.concealment.last_lag) (opened_memory energies s)

abbrev pub SharpeningIsCore : Type 0
SharpeningIsCore = (kind : SheetKind) (energies sheet : List ℤ) (s : State) → SharpeningOfCore kind energies sheet s
