-- A test of two signed numbers, as a branch leaves it, is a fact of their order.
use Rattle.std.proofs.Common.{◌≡◌, refl, subst, true, false, leb-false, lt-ltb, le-ltb, T, lt→ltb, ltb→lt, leb→le, ℤ, pos, negsuc, ◌≤ℤ◌, ◌<ℤ◌, SFits, to_z, of_z, to_z-of_z}
use Rattle.std.specs.Int.Signed.{le_z, lt_z, lt_z_no}
use Rattle.std.specs.Int.{Width}

pub less_yes : {a b : ℤ} → lt_z a b ≡ true → a <ℤ b
less_yes e = record { lt = rw e tt }

pub less_no : {a b : ℤ} → lt_z a b ≡ false → b ≤ℤ a
less_no e = lt_z_no (rw e tt)

pub at_most_yes : {a b : ℤ} → le_z a b ≡ true → a ≤ℤ b
at_most_yes e = record { le = rw e tt }

pub at_most_no : (a b : ℤ) → le_z a b ≡ false → b <ℤ a
at_most_no (pos a) (pos b) e = record { lt = lt→ltb b a (leb-false a b e) }
at_most_no (pos a) (negsuc b) e = record { lt = tt }
at_most_no (negsuc a) (pos b) e = record { lt = subst T e tt }
at_most_no (negsuc a) (negsuc b) e = record { lt = lt→ltb a b (leb-false b a e) }

-- and back
pub yes_less : (a b : ℤ) → a <ℤ b → lt_z a b ≡ true
yes_less (pos a) (pos b) h = lt-ltb a b (ltb→lt a b h.lt)
yes_less (pos a) (negsuc b) h = absurd h.lt
yes_less (negsuc a) (pos b) h = refl
yes_less (negsuc a) (negsuc b) h = lt-ltb b a (ltb→lt b a h.lt)

pub no_less : (a b : ℤ) → b ≤ℤ a → lt_z a b ≡ false
no_less (pos a) (pos b) h = le-ltb a b (leb→le b a h.le)
no_less (pos a) (negsuc b) h = refl
no_less (negsuc a) (pos b) h = absurd h.le
no_less (negsuc a) (negsuc b) h = le-ltb b a (leb→le a b h.le)

-- a test against 0, of the bits read back
pub negative : (w : Width) (n : ℤ) → SFits w n → lt_z (to_z w (of_z w n)) (pos 0) ≡ true → n <ℤ pos 0
negative w n f e = less_yes (rw (to_z-of_z f) at e)
