-- What holds of every refusal, and so of every outcome. A new one is a line here.
use Rattle.std.proofs.Common.{◌≡◌, refl, sym, ◌∙◌, subst, true, false, ◌<◌, arith, T}
use Rattle.std.specs.Prelude.{Ok, Err, is_ok}
use Rattle.outcome.specs.declared.Refusal.{Refusal}
use Rattle.outcome.specs.declared.Refusal.TheVariants.{SheetLength, Lsf, PitchIndex, Gain, OutputLength, LsfGap, Table, GainIndex, Stage, RecordShort, Tag, Version, Layout, BodyShort, Sharpening, SmoothedGain, GainField, LastLag}
use Rattle.outcome.specs.Outcome.{Outcome, refusal_number, number_of, place_of, is_accepted}

record Fact (r : Refusal) : Type 0 where
  -- 255 is no refusal's number: the exported calls return it for what no refusal speaks of
  pub number : refusal_number r < 255
  -- 0 is the number of what is accepted alone
  pub refuses : is_accepted (Err r) ≡ false

fact : (r : Refusal) → Fact r
fact SheetLength = record { number = omega arith; refuses = refl }
fact (Lsf place) = record { number = omega arith; refuses = refl }
fact (PitchIndex place) = record { number = omega arith; refuses = refl }
fact (Gain place) = record { number = omega arith; refuses = refl }
fact OutputLength = record { number = omega arith; refuses = refl }
fact (LsfGap place) = record { number = omega arith; refuses = refl }
fact (Table place) = record { number = omega arith; refuses = refl }
fact (GainIndex place) = record { number = omega arith; refuses = refl }
fact Stage = record { number = omega arith; refuses = refl }
fact RecordShort = record { number = omega arith; refuses = refl }
fact Tag = record { number = omega arith; refuses = refl }
fact Version = record { number = omega arith; refuses = refl }
fact Layout = record { number = omega arith; refuses = refl }
fact BodyShort = record { number = omega arith; refuses = refl }
fact Sharpening = record { number = omega arith; refuses = refl }
fact SmoothedGain = record { number = omega arith; refuses = refl }
fact (GainField place) = record { number = omega arith; refuses = refl }
fact LastLag = record { number = omega arith; refuses = refl }

pub never_accepted : (r : Refusal) → is_accepted (Err r) ≡ false
never_accepted r = (fact r).refuses

pub number_low : (o : Outcome) → number_of o < 255
number_low (Ok t) = omega arith
number_low (Err r) = (fact r).number

-- the one outcome that is accepted
pub accepted_ok : (o : Outcome) → is_accepted o ≡ true → o ≡ Ok tt
accepted_ok (Ok t) e = refl
accepted_ok (Err r) e = absurd (subst T (sym e ∙ never_accepted r) tt)

-- as the code tests it
pub accepted_is_ok : (o : Outcome) → is_ok o ≡ is_accepted o
accepted_is_ok (Ok t) = refl
accepted_is_ok (Err r) = sym (never_accepted r)

pub accepted_number : (o : Outcome) → is_accepted o ≡ true → number_of o ≡ 0
accepted_number o e = rw (accepted_ok o e)

pub accepted_place : (o : Outcome) → is_accepted o ≡ true → place_of o ≡ 0
accepted_place o e = rw (accepted_ok o e)
