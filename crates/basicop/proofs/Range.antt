-- What fits a signed width, for any width: sums, products, casts.
use Rattle.std.proofs.Common.{◌≡◌, sym, subst, ℕ, zero, suc, max, ◌+◌, ◌*◌, ◌^◌, ◌<◌, ◌≤◌, mul-le-mul, mul-le-mul_right, mul-lt-mul_of_pos_right, le_refl, lt_of_lt_of_le, arith, T, leb, ltb, leb→le, ltb→lt, pow_pos, ℤ, pos, negsuc, neg_ℤ, nat_abs, ◌+ℤ◌, ◌-ℤ◌, ◌*ℤ◌, ◌≤ℤ◌, SFits, Fits, to_z, of_z, to_z-of_z}
use Rattle.std.specs.Int.Signed.{mag, non_neg, yes_non_neg, pos-nat_abs, nat_abs-le}
use Rattle.std.specs.Int.{Width}
use mir.Val.{bits, hbits}
use Rattle.std.proofs.Math.Facts.{to_z_pos, Fits-nat_abs}
use Rattle.std.proofs.lemmas.Int.{unsigned_abs-mul}
use Rattle.basicop.specs.Ops.{least, most}
use borrow.Author.Differences.{up, down, sum_is_lem}
use Rattle.basicop.proofs.Ints.{arith_ℤ, sfits_by, sub_ℤ_is}

-- Each law takes a bound on `mag` of each operand, as what a need is handed has it of a parameter (`c.fits.x.sfits`) and of a result (`c.f.ok`):
-- `search` takes the bound from there, and the last premise compares numerals.
pub sfits_wider : (v : Width) (z : ℤ) (k : ℕ) → mag z < k → T (leb k (2 ^ hbits v)) → SFits v z
sfits_wider v z k h t = record { sfits = lt_of_lt_of_le h (leb→le k (2 ^ hbits v) t) }

mag_out : (z : ℤ) {k : ℕ} → mag z < k → max (suc (up z)) (down z) ≤ k
mag_out (pos n) h = omega arith
mag_out (negsuc n) h = omega arith

pub sfits_add : (v : Width) (a b : ℤ) (k l : ℕ) → mag a < k → mag b < l → T (leb (k + l) (2 ^ hbits v)) → SFits v (a +ℤ b)
sfits_add v a b k l h j t = sfits_by (omega (arith, mag_out a h, mag_out b j, sum_is_lem a b, leb→le (k + l) (2 ^ hbits v) t))

pub sfits_sub : (v : Width) (a b : ℤ) (k l : ℕ) → mag a < k → mag b < l → T (leb (k + l) (2 ^ hbits v)) → SFits v (a -ℤ b)
sfits_sub v a b k l h j t = sfits_by (omega (arith, mag_out a h, mag_out b j, sub_ℤ_is a b, leb→le (k + l) (2 ^ hbits v) t))

-- ---- products: the sizes multiply
pub nat_abs_is : (z : ℤ) → nat_abs z ≡ up z + down z
nat_abs_is (pos n) = omega arith
nat_abs_is (negsuc n) = omega arith

pub mul_bound : (a b : ℤ) {i j : ℕ} → nat_abs a ≤ i → nat_abs b ≤ j → nat_abs (a *ℤ b) ≤ i * j
mul_bound a b {i} {j} h k = subst (λ (n : ℕ). n ≤ i * j) (sym (unsigned_abs-mul a b)) (mul-le-mul h k)

pub sfits_mul : (v : Width) (a b : ℤ) (k l : ℕ) → mag a < k → mag b < l → T (ltb (k * l) (2 ^ hbits v)) → SFits v (a *ℤ b)
sfits_mul v a b k l h j t =
    sfits_by (omega (arith, nat_abs_is (a *ℤ b), mul_bound a b (nat_abs-le a h) (nat_abs-le b j), ltb→lt (k * l) (2 ^ hbits v) t))

pub sfits_scale : (v : Width) (m : ℕ) (a b : ℤ) (k l : ℕ) → mag a < k → mag b < l → T (ltb (m * (k * l)) (2 ^ hbits v)) → SFits v (pos m *ℤ (a *ℤ b))
sfits_scale v m a b k l h j t =
    sfits_by (omega (arith, nat_abs_is (pos m *ℤ (a *ℤ b)), mul_bound (pos m) (a *ℤ b) (le_refl m) (mul_bound a b (nat_abs-le a h) (nat_abs-le b j)), ltb→lt (m * (k * l)) (2 ^ hbits v) t))

-- ---- sums and differences: no larger than both sizes together
pub abs_by : (z : ℤ) {k : ℕ} → up z ≤ k + down z → down z ≤ k + up z → nat_abs z ≤ k
abs_by (pos n) h l = omega arith
abs_by (negsuc n) h l = omega arith

pub nat_abs_add : (a b : ℤ) → nat_abs (a +ℤ b) ≤ nat_abs a + nat_abs b
nat_abs_add a b = abs_by (a +ℤ b) (omega (arith, sum_is_lem a b, nat_abs_is a, nat_abs_is b)) (omega (arith, sum_is_lem a b, nat_abs_is a, nat_abs_is b))

pub nat_abs_sub : (a b : ℤ) → nat_abs (a -ℤ b) ≤ nat_abs a + nat_abs b
nat_abs_sub a b = abs_by (a -ℤ b) (omega (arith, sub_ℤ_is a b, nat_abs_is a, nat_abs_is b)) (omega (arith, sub_ℤ_is a b, nat_abs_is a, nat_abs_is b))

-- a factor that is a numeral: the range goes up to its end
mag_neg : (n : ℕ) {k : ℕ} → n ≤ k → 0 < k → mag (neg_ℤ (pos n)) < k
mag_neg zero h p = p
mag_neg (suc n) h p = h

mag_times : (a : ℤ) (m k : ℕ) → mag a < k → 0 < m → mag (a *ℤ pos m) < k * m
mag_times (pos a) m k h p = mul-lt-mul_of_pos_right h p
mag_times (negsuc a) m k h p = mag_neg (suc a * m) (mul-le-mul_right m h) (lt_of_lt_of_le p (omega (arith, mul-le-mul_right m h)))

pub sfits_times : (v : Width) (a : ℤ) (m k : ℕ) → mag a < k → T (ltb 0 m) → T (leb (k * m) (2 ^ hbits v)) → SFits v (a *ℤ pos m)
sfits_times v a m k h p t = record { sfits = lt_of_lt_of_le (mag_times a m k h (ltb→lt 0 m p)) (leb→le (k * m) (2 ^ hbits v) t) }

-- ---- the range, as bounds in the order of ℤ
pub sfits_range : (w : Width) (z : ℤ) → SFits w z → (least w ≤ℤ z) × (z ≤ℤ most w)
sfits_range w z h = omega (arith_ℤ, pow_pos (hbits w))

pub sfits_from : (w : Width) (z : ℤ) → least w ≤ℤ z → z ≤ℤ most w → SFits w z
sfits_from w z h k = sfits_by (omega (arith_ℤ, pow_pos (hbits w)))

-- ---- casts
-- a number, cast to a wider type
pub widened : (w v : Width) (z : ℤ) → SFits w z → T (leb (2 ^ hbits w) (2 ^ hbits v)) → to_z v (of_z v (to_z w (of_z w z))) ≡ z
widened w v z f t = rw (to_z-of_z f) (to_z-of_z (sfits_wider v z (2 ^ hbits w) f.sfits t))

-- n, cast to a signed type that holds it
pub to_z_nat : (w : Width) (n k : ℕ) → n < k → T (leb k (2 ^ hbits w)) → to_z w n ≡ pos n
to_z_nat w n k h t = to_z_pos w (lt_of_lt_of_le h (leb→le k (2 ^ hbits w) t))

-- z that is not negative, cast to an unsigned type: what the cast asks, and what it gives
pub cast_asks : (w v : Width) (z : ℤ) → SFits w z → pos 0 ≤ℤ z → T (ltb (hbits w) (bits v)) → T (non_neg (to_z w (of_z w z))) × Fits v (nat_abs (to_z w (of_z w z)))
cast_asks w v z f h t = rw (to_z-of_z f) (yes_non_neg h, Fits-nat_abs {w = w} {w' = v} t f)

pub cast_gives : (w : Width) (z : ℤ) → SFits w z → pos 0 ≤ℤ z → pos (nat_abs (to_z w (of_z w z))) ≡ z
cast_gives w z f h = rw (to_z-of_z f) (pos-nat_abs z (yes_non_neg h))
