-- What the call's checks come to, of what each group comes to.
use Rattle.std.proofs.Common.{◌≡◌, sym, ◌∙◌, List, [], ◌∷◌, ℤ}
use Rattle.std.specs.Prelude.{Ok, Err}
use Rattle.outcome.specs.declared.Refusal.{Refusal}
use Rattle.outcome.specs.Outcome.{Outcome}
use Rattle.outcome.specs.Checks.{first_met}
use Rattle.outcome.proofs.Checks.{refused_first, accepted_here}
use Rattle.gain.specs.Checks.{table_checks, index_checks}
use Rattle.gain.specs.Call.{decode_checks}

module _ (logs pows : List ℤ) (index : ℤ) where
  pub tables_refuse : {r : Refusal} → first_met (table_checks logs pows) ≡ Err r → first_met (decode_checks logs pows index) ≡ Err r
  tables_refuse e = sym (refused_first (table_checks logs pows) (index_checks 1 (index ∷ [])) (sym e))

  pub index_decides : {o : Outcome} → first_met (table_checks logs pows) ≡ Ok tt → o ≡ first_met (index_checks 1 (index ∷ [])) → first_met (decode_checks logs pows index) ≡ o
  index_decides a e = sym (e ∙ accepted_here (table_checks logs pows) (index_checks 1 (index ∷ [])) (sym a))
