-- What is lent, part by part.
use Rattle.std.proofs.Common.{◌≡◌, refl, sym, ap, ◌∙◌, subst, Bool, true, false, Option, Some, None, List, [], ◌∷◌, ℕ, zero, suc, ◌≤◌, ◌<◌, arith, ℤ, length, eqb, eqb-true}
use Rattle.std.specs.Prelude.{MatchOption, is_ok}
use Rattle.std.specs.Array.{list_steps}
use Rattle.std.specs.Iterator.{Yields, CallableAtEachTurn}
use Rattle.std.proofs.lemmas.Fn.{serves_by}
use Rattle.lists.specs.Lists.{Every}
use Rattle.decoder.proofs.Results.{Held}
use Rattle.state.specs.declared.State.{State}
use Rattle.outcome.specs.Outcome.{is_accepted}
use Rattle.outcome.proofs.Variants.{accepted_is_ok}
use Rattle.coding.specs.Bytes.{Bytes}
use Rattle.kinds.specs.Kind.{SheetKind, kind_of}
use Rattle.mr74.specs.declared.EnergiesAnswer.{EnergiesAnswer}
use Rattle.mr74.specs.Frame.{EnergiesResult, energies_result}
use Rattle.mr74.specs.Inner.{kind_call}
use Rattle.mr74.proofs.Places.{call_places}
use Rattle.kinds.proofs.Passed.{passed}
use Rattle.capi.specs.Capi.{no_numbers, lent_numbers}
use Rattle.capi.specs.Frames.{out_length, room_in}
use Rattle.capi.proofs.Codes.{traced_outcome}

-- ---- the places
-- the places of an answer are bytes
places_bytes : (places : List ℕ) → Every (λ (place : ℕ). place ≤ 40) places → Bytes places
places_bytes [] e i = omega arith
places_bytes (p ∷ ps) e zero = let h = e.0 in omega (arith, h)
places_bytes (p ∷ ps) e (suc i) = places_bytes ps e.1 i

-- what is left of bytes, after some were taken from the front
left_bytes : (xs bytes rest : List ℕ) → Yields list_steps bytes xs rest → Bytes bytes → Bytes rest
left_bytes [] bytes rest e b = subst Bytes e b
left_bytes (x ∷ xs) bytes rest y b = left_bytes xs y.0 rest y.2 (λ i. subst Bytes y.1 b (suc i))

-- what `map` asks over bytes, of a closure that asks for a byte and stays as it was
pub called_at_bytes : {P : Type 0} {R : P → ℕ → P → Type 0} {Q : P → ℕ → Type 0} {f : P} (bytes : List ℕ) → Bytes bytes
    → ((x : ℕ) (q : P) → R f x q → q ≡ f) → ((x : ℕ) → x < 256 → Q f x) → CallableAtEachTurn list_steps R Q bytes f
called_at_bytes {R = R} {Q} {f} bytes b keeps may =
    serves_by R (λ xs q. q ≡ f)
    (λ xs q x v e r. keeps x v (rw e at r))
    list_steps Q bytes f refl
    (λ xs rest q x u y h e. rw e (may x (subst Bytes h (left_bytes xs bytes rest y b) 0)))

pub frame_places : (k : SheetKind) (energies sheet : List ℤ) (s : State) (out : List ℤ) → Held s.core → Bytes (kind_call (kind_of k) energies sheet s out).answer.frame.places
unfolding kind_call
frame_places k energies sheet s out h = places_bytes _ (call_places k energies sheet s out h)

-- ---- what is lent, as numbers
pub handed_on : (o : Option (List ℤ)) {N count : ℕ} → N ≡ count → (bytes : List ℕ) {handed : List ℤ}
    → MatchOption o (lent_numbers N bytes ≡ no_numbers) (λ numbers. numbers ≡ lent_numbers N bytes) → MatchOption o (handed ≡ no_numbers) (λ numbers. handed ≡ numbers)
    → handed ≡ lent_numbers count bytes
handed_on None en bytes e h = rw (← en) (h ∙ sym e)
handed_on (Some numbers) en bytes e h = rw (← en) (h ∙ e)

-- an accepted call was lent all the bytes of its samples
room_is : (out : List ℕ) → length (room_in out) ≡ 160 → length out ≡ out_length
room_is out h = go (eqb (length out) out_length) refl
  where
    go : (b : Bool) → eqb (length out) out_length ≡ b → length out ≡ out_length
    go true e = eqb-true _ _ e
    go false e = let z : 0 ≡ 160 = rw e at h in absurd (omega (arith, z))

pub room_all : (k : SheetKind) (energies sheet : List ℤ) (s : State) (room : List ℤ) (out : List ℕ) → length room ≡ length (room_in out)
    → {answer : EnergiesAnswer} {lent : List ℤ} → energies_result answer lent ≡ kind_call (kind_of k) energies sheet s room → is_ok answer.frame.outcome ≡ true
    → (length room ≡ 160) × (length out ≡ out_length)
unfolding kind_call
room_all k energies sheet s room out l {answer} e h =
    let o = ap (λ (r : EnergiesResult). r.answer.frame.outcome) e ∙ traced_outcome (kind_of k) energies sheet s room in
    let lent = (passed k sheet s (length room) (ap is_accepted (sym o) ∙ sym (accepted_is_ok answer.frame.outcome) ∙ h)).lent in
    (lent, room_is out (sym l ∙ lent))
