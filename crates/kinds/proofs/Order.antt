-- A call's outcome, of what each group in its order comes to.
use Rattle.std.proofs.Common.{ℕ, ◌≡◌, sym, ◌∙◌, List, ◌++◌, ℤ, length}
use Rattle.std.specs.Prelude.{Ok, Err}
use Rattle.outcome.specs.declared.Refusal.{Refusal}
use Rattle.outcome.specs.Outcome.{Outcome}
use Rattle.outcome.specs.Checks.{first_met}
use Rattle.outcome.proofs.Checks.{refused_first, accepted_here}
use Rattle.state.specs.declared.State.{State}
use Rattle.state.specs.State.{state_checks}
use Rattle.kinds.specs.Checks.{length_checks, lsf_checks}
use Rattle.kinds.specs.Kind.{Kind, call_outcome}

module _ (kind : Kind) (sheet : List ℤ) (s : State) (room : ℕ) where
  pub lengths_refuse : {r : Refusal} → Err r ≡ first_met (length_checks kind.count (length sheet) room) → call_outcome kind sheet s room ≡ Err r
  unfolding call_outcome
  lengths_refuse e = sym (refused_first (length_checks kind.count (length sheet) room) (lsf_checks sheet ++ (kind.checks sheet ++ state_checks s)) e)

  module _ (l : Ok tt ≡ first_met (length_checks kind.count (length sheet) room)) where
    after_lengths : first_met (lsf_checks sheet ++ (kind.checks sheet ++ state_checks s)) ≡ call_outcome kind sheet s room
    unfolding call_outcome
    after_lengths = accepted_here (length_checks kind.count (length sheet) room) (lsf_checks sheet ++ (kind.checks sheet ++ state_checks s)) l

    pub lsfs_refuse : {r : Refusal} → Err r ≡ first_met (lsf_checks sheet) → call_outcome kind sheet s room ≡ Err r
    lsfs_refuse e = sym (refused_first (lsf_checks sheet) (kind.checks sheet ++ state_checks s) e ∙ after_lengths)

    module _ (f : Ok tt ≡ first_met (lsf_checks sheet)) where
      after_lsfs : first_met (kind.checks sheet ++ state_checks s) ≡ call_outcome kind sheet s room
      after_lsfs = accepted_here (lsf_checks sheet) (kind.checks sheet ++ state_checks s) f ∙ after_lengths

      pub own_refuse : {r : Refusal} → first_met (kind.checks sheet) ≡ Err r → call_outcome kind sheet s room ≡ Err r
      own_refuse e = sym (refused_first (kind.checks sheet) (state_checks s) (sym e) ∙ after_lsfs)

      pub state_decides : {o : Outcome} → o ≡ first_met (state_checks s) → first_met (kind.checks sheet) ≡ Ok tt → call_outcome kind sheet s room ≡ o
      state_decides e a = sym (e ∙ accepted_here (kind.checks sheet) (state_checks s) (sym a) ∙ after_lsfs)
