-- The state that is carried between frames: what it holds, and what turns it back (docs/BENCH.md, "State", "Refusals").
use Rattle.std.specs.Prelude.{◌≡◌, ◌||◌, List, [], ◌∷◌, ◌++◌, ℕ, ◌+◌, pos, length, drop, ◌≤ℤ◌}
use Rattle.std.specs.Int.Signed.{lt_z}
use Rattle.std.specs.Int.{w16}
use Rattle.std.proofs.Common.{SFits}
use Rattle.lists.specs.Lists.{at}
use Rattle.basicop.specs.Words.{Words}
use Rattle.outcome.specs.declared.Refusal.TheVariants.{Sharpening, SmoothedGain, GainField, LastLag}
use Rattle.outcome.specs.Outcome.{Outcome}
use Rattle.outcome.specs.Checks.{Check, check, place_check, first_met, first_outside}
use Rattle.gain_concealment.specs.Formed.{GainsFormed}
use Rattle.gain_concealment.specs.Laws.{Kept}
use Rattle.state.specs.declared.Concealment.{Concealment}
use Rattle.state.specs.declared.State.{State}
use Rattle.state.specs.Layout.{gain_numbers, numbers_of}

-- ---- 213 numbers of 16 bits: what every state holds that the code can hold
-- what the samples are made from: core and postfilter
pub record SignalFormed (s : State) : Type 0 where
  pub lsp : Words 10 s.core.lsp
  pub past : Words 154 s.core.past
  pub sharpening : SFits w16 s.core.sharpening.0
  pub history : Words 10 s.core.history
  pub input_history : Words 10 s.post.input_history
  pub synthesis_history : Words 10 s.post.synthesis_history
  pub previous_residual : SFits w16 s.post.previous_residual
  pub previous_gain : SFits w16 s.post.gain.previous_gain

pub record ConcealmentFormed (c : Concealment) : Type 0 where
  pub last_lag : SFits w16 c.last_lag
  pub gains : GainsFormed c.gains
  pub erased : SFits w16 c.erased

pub record WellFormed (s : State) : Type 0 where
  pub signal : SignalFormed s
  pub concealment : ConcealmentFormed s.concealment

-- ---- what turns a state back
-- 16: sharpening outside 0..=13017; 17: smoothed gain negative
abbrev pub signal_checks : State → List Check
signal_checks s =
    let sharpening = s.core.sharpening.0 in
    check (lt_z sharpening (pos 0) || lt_z (pos 13017) sharpening) Sharpening ∷
    check (lt_z s.post.gain.previous_gain (pos 0)) SmoothedGain ∷
    []

-- 18: a negative gain, fields 198..=211, or an erased mark, 212, other than 0 or 1; the place is the first such field's number. A gain has no upper limit:
-- each is its own
abbrev pub mark_checks : Concealment → List Check
mark_checks c =
    let fields = gain_numbers c.gains ++ (c.erased ∷ []) in
    let limits = gain_numbers c.gains ++ (pos 1 ∷ []) in
    place_check (λ (k : ℕ). GainField (198 + k)) (first_outside fields limits) (length fields) ∷ []

-- 19: the last lag, field 197, outside 19..=144
abbrev pub lag_checks : Concealment → List Check
lag_checks c = check (lt_z c.last_lag (pos 19) || lt_z (pos 144) c.last_lag) LastLag ∷ []

abbrev pub state_checks : State → List Check
state_checks s = signal_checks s ++ (mark_checks s.concealment ++ lag_checks s.concealment)

unfoldable pub state_outcome : State → Outcome
state_outcome s = first_met (state_checks s)

-- ---- the states that are accepted, in plain words: `check_state` accepts exactly these
-- what an erased frame goes by: no gain is negative, the mark is 0 or 1, the last lag lies in 19..=144
pub record Concealing (c : Concealment) : Type 0 where
  pub gains : Kept c.gains
  pub mark : (pos 0 ≤ℤ c.erased) × (c.erased ≤ℤ pos 1)
  pub from : pos 19 ≤ℤ c.last_lag
  pub to : c.last_lag ≤ℤ pos 144

-- sharpening in 0..=13017, and a smoothed gain that is not negative
pub record InRange (s : State) : Type 0 where
  pub from : pos 0 ≤ℤ s.core.sharpening.0
  pub to : s.core.sharpening.0 ≤ℤ pos 13017
  pub gain : pos 0 ≤ℤ s.post.gain.previous_gain
  pub concealment : Concealing s.concealment

-- ---- the places of 18 are those of the record: of a state's numbers the last lag is field 197, and the gains and the mark stand from field 198 on
pub record Fields (s : State) : Type 0 where
  pub last_lag : at (numbers_of s) 197 ≡ s.concealment.last_lag
  pub gains : drop 198 (numbers_of s) ≡ gain_numbers s.concealment.gains ++ (s.concealment.erased ∷ [])
