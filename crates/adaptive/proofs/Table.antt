-- The interpolation table: its length, and its rule by one test of every entry that antt computes.
use Rattle.std.proofs.Common.{◌≡◌, refl, Bool, not, ◌&&◌, ◌||◌, ℕ, ◌%◌, ◌<◌, ◌≤◌, eq-eqb, T, leb, eqb, leb→le, arith, ℤ, pos, negsuc, nat_abs, length, w16, SFits}
use Rattle.std.proofs.lemmas.Bool.{lt-leb}
use Rattle.lists.specs.Lists.{at, eq_z}
use Rattle.lists.proofs.Table.{both_pass, at_each, eq_z→eq}
use Rattle.adaptive.specs.Predict.{inter6}

pub inter6_length : length inter6 ≡ 61
unfolding inter6
inter6_length = refl

-- the test: entry k is at most 29443 in size, and is 0 at 20, 40 and 60
small : ℤ → Bool
small x = leb (nat_abs x) 29443

crosses : ℕ → ℤ → Bool
crosses k x = (leb k 0 || not (eqb (k % 20) 0)) || eq_z x (pos 0)

ruled : ℕ → ℤ → Bool
ruled k x = small x && crosses k x

at_ruled : (k : ℕ) → k < 61 → T (ruled k (at inter6 k))
unfolding inter6 ruled small crosses
at_ruled k h = at_each ruled inter6 tt k h

pub inter6_bound : (k : ℕ) → k < 61 → nat_abs (at inter6 k) ≤ 29443
unfolding ruled small
inter6_bound k h = leb→le (nat_abs (at inter6 k)) 29443 (both_pass (small (at inter6 k)) (crosses k (at inter6 k)) (at_ruled k h)).0

sized : (z : ℤ) → nat_abs z ≤ 29443 → SFits w16 z
sized (pos n) h = record { sfits = omega (arith, h) }
sized (negsuc n) h = record { sfits = omega (arith, h) }

pub inter6_fits : (k : ℕ) → k < 61 → SFits w16 (at inter6 k)
inter6_fits k h = sized (at inter6 k) (inter6_bound k h)

pub inter6_zero : (k : ℕ) → 0 < k → k < 61 → k % 20 ≡ 0 → at inter6 k ≡ pos 0
unfolding ruled crosses
inter6_zero k p h e =
    eq_z→eq (at inter6 k) (pos 0)
    (rw (lt-leb k 0 p, eq-eqb (k % 20) 0 e) at ((both_pass (small (at inter6 k)) (crosses k (at inter6 k)) (at_ruled k h)).1))
