-- The writer's definition, case by case.
use Rattle.std.proofs.Common.{◌≡◌, ap, not, List, [], ◌∷◌, ℕ, arith, pos, length, eqb, eq-eqb, ne_eqb}
use Rattle.std.specs.Prelude.{Ok, Err}
use Rattle.outcome.specs.declared.Refusal.{Refusal}
use Rattle.outcome.specs.declared.Refusal.TheVariants.{OutputLength}
use Rattle.outcome.specs.Outcome.{Outcome}
use Rattle.outcome.specs.Checks.{first_met}
use Rattle.outcome.proofs.Variants.{never_accepted}
use Rattle.outcome.proofs.Checks.{met, unmet}
use Rattle.state.specs.declared.State.{State}
use Rattle.state.specs.State.{state_checks}
use Rattle.coding.proofs.Laid.{bytes_length}
use Rattle.record.specs.Record.{Trailer, trailer_bytes, encoded, write_checks, write_result, write_call}

pub trailer_length : (t : Trailer) → length (trailer_bytes t) ≡ 8
trailer_length t = omega (arith, bytes_length (pos t.version ∷ pos t.distance ∷ pos t.count ∷ []))

-- ---- the call, of what its outcome is found to be
module _ (s : State) (out : List ℕ) where
  pub no_room : (length out ≡ 434 → ⊥) → Err OutputLength ≡ first_met (write_checks s (length out))
  no_room n = met (not (eqb (length out) 434)) OutputLength (state_checks s) (ap not (ne_eqb (length out) 434 n))

  pub room_there : length out ≡ 434 → first_met (state_checks s) ≡ first_met (write_checks s (length out))
  room_there h = unmet (not (eqb (length out) 434)) OutputLength (state_checks s) (ap not (eq-eqb (length out) 434 h))

  pub write_accepted : Ok tt ≡ first_met (write_checks s (length out)) → {last : List ℕ} → last ≡ encoded s → write_result (Ok tt) last ≡ write_call s out
  unfolding write_call
  write_accepted e f = rw (← e) (ap (write_result (Ok tt)) f)

  pub write_refused : {r : Refusal} → Err r ≡ first_met (write_checks s (length out)) → {o : Outcome} {last : List ℕ} → o ≡ Err r → last ≡ out → write_result o last ≡ write_call s out
  unfolding write_call
  write_refused {r} e f g = rw (f, g, ← e, never_accepted r)
