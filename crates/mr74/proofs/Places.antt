-- Every place of an answer lies in 0..=40.
use Rattle.std.proofs.Common.{ℕ, ◌≤◌, ◌≡◌, refl, Bool, true, false, List, lit≤, ℤ, length}
use Rattle.lists.specs.Lists.{Every}
use Rattle.decoder.proofs.Results.{Held, core_facts}
use Rattle.state.specs.declared.State.{State}
use Rattle.outcome.specs.Outcome.{Outcome, is_accepted}
use Rattle.kinds.specs.Kind.{SheetKind, kind_of, call_outcome}
use Rattle.kinds.specs.Prepass.{prepared}
use Rattle.kinds.proofs.Usable.{usable}
use Rattle.mr74.specs.Frame.{call_trace}

-- the places of a list
abbrev pub Low : List ℕ → Type 0
Low = Every (λ (place : ℕ). place ≤ 40)

module _ (k : SheetKind) (energies sheet : List ℤ) (s : State) (out : List ℤ) (h : Held s.core) where
  abbrev o : Outcome
  o = call_outcome (kind_of k) sheet s (length out)

  pub call_places : Low (call_trace (kind_of k) energies sheet s out).places
  unfolding call_trace
  call_places = go (is_accepted o) refl
    where
      go : (b : Bool) → is_accepted o ≡ b → Low (call_trace (kind_of k) energies sheet s out).places
      go true e = rw e (core_facts s.core (prepared (kind_of k) energies sheet s).inputs (usable k energies sheet s (length out) e).inputs h).places
      go false e = rw e (lit≤ tt, (lit≤ tt, (lit≤ tt, (lit≤ tt, tt))))
