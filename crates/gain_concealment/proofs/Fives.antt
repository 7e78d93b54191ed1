-- A list of five by its entries, and with a number taken in.
use Rattle.std.proofs.Common.{◌≡◌, refl, ap, List, [], ◌∷◌, arith, ℤ, pos, length}
use Rattle.lists.specs.Lists.{at}
use Rattle.lists.proofs.Entries.{four_entries}
use Rattle.basicop.specs.declared.Gains.{Gains}
use Rattle.gain_concealment.specs.declared.GainConcealment.{GainConcealment}
use Rattle.gain_concealment.specs.Concealment.{held_to, taking_in, updated}

pub five_entries : (xs : List ℤ) → length xs ≡ 5 → at xs 0 ∷ at xs 1 ∷ at xs 2 ∷ at xs 3 ∷ at xs 4 ∷ [] ≡ xs
five_entries [] e = absurd (omega (arith, e))
five_entries (x ∷ xs) e = ap (λ (ys : List ℤ). x ∷ ys) (four_entries (pos 0) xs (omega (arith, e)))

pub five_taking : (g : ℤ) (xs : List ℤ) → length xs ≡ 5 → at xs 1 ∷ at xs 2 ∷ at xs 3 ∷ at xs 4 ∷ g ∷ [] ≡ taking_in g xs
five_taking g xs e = ap (taking_in g) (five_entries xs e)

-- what the updates come to, of both fives and the held pitch gain
pub updated_made : (gains : Gains) (c : GainConcealment) {pitches codes : List ℤ} {pitch : ℤ}
    → pitches ≡ taking_in (held_to (pos 16384) gains.pitch.0) c.pitch_history → codes ≡ taking_in gains.code.0 c.code_history → pitch ≡ held_to (pos 16384) gains.pitch.0
    → record { pitch_history = pitches; code_history = codes; past = record { pitch = record { 0 = pitch }; code = gains.code }; last_good = c.last_good } ≡ updated gains c
unfolding updated
updated_made gains c e f g = rw (e, f, g) refl
