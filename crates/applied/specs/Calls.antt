-- The laws of lists of calls (calls/proofs) applied to the calls of Examples.antt. The theorem is `calls_applied` in proofs/Calls.antt.
use Rattle.std.specs.Prelude.{◌≡◌, Ok, [], ◌∷◌, ◌++◌}
use Rattle.state.specs.declared.State.{State}
use Rattle.state.specs.State.{WellFormed, state_outcome}
use Rattle.calls.specs.Calls.{next_state, run_calls, state_after}
use Rattle.applied.specs.Examples.{silent, call, empty_call, calls}

-- the state after the first of them
abbrev pub between : State
between = state_after silent (call ∷ [])

pub record CallsApplied : Type 0 where
  -- next_refused
  pub refused : next_state silent empty_call ≡ silent
  -- NextWellFormed, NextAccepted
  pub next_well_formed : WellFormed (next_state silent call)
  pub next_accepted : state_outcome (next_state silent call) ≡ Ok tt
  -- list_well_formed, list_accepted
  pub list_well_formed : WellFormed (state_after silent calls)
  pub list_accepted : state_outcome (state_after silent calls) ≡ Ok tt
  -- run_append, after_append: the two calls are the first, and then the second
  pub run : run_calls silent calls ≡ run_calls silent (call ∷ []) ++ run_calls between (empty_call ∷ [])
  pub after : state_after silent calls ≡ state_after between (empty_call ∷ [])
