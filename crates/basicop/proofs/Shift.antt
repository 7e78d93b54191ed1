-- The shift to the right and its remainder.
use Rattle.std.proofs.Common.{◌≡◌, refl, sym, ap, ◌∙◌, subst, Bool, true, false, ℕ, min, ◌+◌, ◌*◌, ◌/◌, ◌^◌, ◌<◌, ◌≤◌, div-one, div-add-mod', mod-lt, div-le_self, div-lt_iff_lt-mul, lt_of_le_of_lt, lt_of_lt_of_le, arith, leb-true, leb-false, T, leb, ltb, leb→le, ltb→lt, pow-add, pow_mono, shr_lt, ℤ, pos, negsuc, ◌≤ℤ◌, SFits}
use Rattle.std.proofs.Math.Nat.{div-eq_of_lt, div-div-eq-div-mul}
use Rattle.std.proofs.Math.Pow.{shr_mono}
use Rattle.std.specs.Int.Signed.{le_z, mag, shr_z}
use Rattle.std.specs.Int.{Width}
use mir.Val.{hbits}
use Rattle.basicop.specs.Ops.{asr, mod_z}
use borrow.Author.Differences.{up, down}
use Rattle.basicop.proofs.Ints.{arith_ℤ}

pub mag_shr : (z : ℤ) (m : ℕ) → mag (shr_z z m) ≡ mag z / m
mag_shr (pos a) m = refl
mag_shr (negsuc a) m = refl

mag_shr_z : (z : ℤ) (m k : ℕ) → 0 < m → mag z < k * m → mag (shr_z z m) < k
mag_shr_z z m k p h = subst (λ (n : ℕ). n < k) (sym (mag_shr z m)) ((div-lt_iff_lt-mul p).1 h)

pub sfits_shr_z : (v : Width) (z : ℤ) (m k : ℕ) → mag z < k → T (ltb 0 m) → T (leb k (2 ^ hbits v * m)) → SFits v (shr_z z m)
sfits_shr_z v z m k h p t = record { sfits = mag_shr_z z m (2 ^ hbits v) (ltb→lt 0 m p) (lt_of_lt_of_le h (leb→le k (2 ^ hbits v * m) t)) }

-- a shift to the right fits where its operand does
pub sfits_shr_same : (w : Width) (z : ℤ) (m : ℕ) → SFits w z → SFits w (shr_z z m)
sfits_shr_same w z m h = record { sfits = lt_of_le_of_lt (subst (λ (k : ℕ). k ≤ mag z) (sym (mag_shr z m)) (div-le_self (mag z) m)) h.sfits }

pub asr_fits : (w v : Width) (z : ℤ) (n : ℕ) → SFits w z → T (leb (hbits w) (hbits v + n)) → SFits v (asr z n)
unfolding asr
asr_fits w v z n h t = record { sfits = subst (λ (k : ℕ). k < 2 ^ hbits v) (sym (mag_shr z (2 ^ n))) (shr_lt (hbits v) n (lt_of_lt_of_le h.sfits (pow_mono (leb→le (hbits w) (hbits v + n) t)))) }

asr_mono' : (a b : ℤ) (n : ℕ) → T (le_z a b) → shr_z a (2 ^ n) ≤ℤ shr_z b (2 ^ n)
asr_mono' (pos a) (pos b) n t = omega (arith_ℤ, shr_mono n (leb→le a b t))
asr_mono' (pos a) (negsuc b) n t = absurd t
asr_mono' (negsuc a) (pos b) n t = omega arith_ℤ
asr_mono' (negsuc a) (negsuc b) n t = omega (arith_ℤ, shr_mono n (leb→le b a t))

pub asr_mono : (a b : ℤ) (n : ℕ) → a ≤ℤ b → asr a n ≤ℤ asr b n
unfolding asr
asr_mono a b n h = asr_mono' a b n h.le

-- a shift by as much as the width or more leaves the sign
pub asr_far : (w : Width) (z : ℤ) (m n : ℕ) → SFits w z → hbits w ≤ m → hbits w ≤ n → asr z m ≡ asr z n
unfolding asr
asr_far w (pos a) m n f h k = ap pos (gone m h ∙ sym (gone n k))
  where
    gone : (m : ℕ) → hbits w ≤ m → a / 2 ^ m ≡ 0
    gone m h = div-eq_of_lt (lt_of_lt_of_le f.sfits (pow_mono h))
asr_far w (negsuc a) m n f h k = ap negsuc (gone m h ∙ sym (gone n k))
  where
    gone : (m : ℕ) → hbits w ≤ m → a / 2 ^ m ≡ 0
    gone m h = div-eq_of_lt (lt_of_lt_of_le f.sfits (pow_mono h))

-- so a count beyond that may be held to it
pub asr_min : (w : Width) (z : ℤ) (n : ℕ) → SFits w z → asr z (min n (hbits w)) ≡ asr z n
asr_min w z n f = go (leb n (hbits w)) refl
  where
    go : (t : Bool) → leb n (hbits w) ≡ t → asr z (min n (hbits w)) ≡ asr z n
    go true e = ap (asr z) (omega (arith, leb-true))
    go false e = asr_far w z (min n (hbits w)) n f (omega (arith, leb-false)) (omega (arith, leb-false))

pub asr_same : (w : Width) (z : ℤ) (n : ℕ) → SFits w z → SFits w (asr z n)
unfolding asr
asr_same w z n h = sfits_shr_same w z (2 ^ n) h

pub asr_zero : (z : ℤ) → asr z 0 ≡ z
unfolding asr
asr_zero (pos a) = ap pos (div-one a)
asr_zero (negsuc a) = ap negsuc (div-one a)

-- two shifts are one
shr_shr : (z : ℤ) (m k : ℕ) → shr_z (shr_z z m) k ≡ shr_z z (m * k)
shr_shr (pos a) m k = ap pos (div-div-eq-div-mul a m k)
shr_shr (negsuc a) m k = ap negsuc (div-div-eq-div-mul a m k)

pub asr_asr : (z : ℤ) (m k : ℕ) → asr (asr z m) k ≡ asr z (m + k)
unfolding asr
asr_asr z m k = shr_shr z (2 ^ m) (2 ^ k) ∙ ap (shr_z z) (sym (pow-add 2 m k))

-- the quotient and the remainder, as a linear fact for `omega` where m is a numeral
pub shr_is : (z : ℤ) (m : ℕ) → 0 < m → up z + m * down (shr_z z m) ≡ down z + (m * up (shr_z z m) + mod_z z m)
shr_is (pos a) m p = omega (arith, div-add-mod' a m)
shr_is (negsuc a) m p = omega (arith, div-add-mod' a m, mod-lt a p)

pub mod_z_lt : (z : ℤ) (m : ℕ) → 0 < m → mod_z z m < m
mod_z_lt (pos a) m p = mod-lt a p
mod_z_lt (negsuc a) m p = omega (arith, mod-lt a p)
