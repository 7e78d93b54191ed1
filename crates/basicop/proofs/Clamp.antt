-- The clamp, for any width.
use Rattle.std.proofs.Common.{◌≡◌, refl, sym, ap, ◌∙◌, Bool, true, false, cond, ℕ, zero, suc, min, ◌*◌, ◌-◌, ◌^◌, ◌<◌, ◌≤◌, zero-mul, arith, leb-true, leb-false, ltb-true, ltb-false, T, leb, ltb, lit<, pow_mono, pow_pos, ℤ, pos, negsuc, neg_ℤ, ◌-ℤ◌, ◌*ℤ◌, ◌≤ℤ◌, ◌<ℤ◌, w8, w16, w32, w64, SFits, to_z, of_z, to_z-of_z}
use Rattle.std.specs.Int.Signed.{lt_z}
use Rattle.std.specs.Int.{Width, w128, int_max, int_min}
use mir.Val.{hbits}
use Rattle.basicop.specs.Ops.{clamp, least, most}
use Rattle.basicop.proofs.Ints.{arith_ℤ, sub_ℤ_is}
use Rattle.basicop.proofs.Range.{sfits_wider}
use Rattle.basicop.proofs.Tests.{less_yes, less_no, yes_less, no_less}

-- by its two tests
pub clamp_low : (w : Width) (z : ℤ) → lt_z z (least w) ≡ true → clamp w z ≡ least w
unfolding clamp
clamp_low w z e = rw e

pub clamp_high : (w : Width) (z : ℤ) → lt_z z (least w) ≡ false → lt_z (most w) z ≡ true → clamp w z ≡ most w
unfolding clamp
clamp_high w z e f = rw (e, f)

pub clamp_mid : (w : Width) (z : ℤ) → lt_z z (least w) ≡ false → lt_z (most w) z ≡ false → clamp w z ≡ z
unfolding clamp
clamp_mid w z e f = rw (e, f)

-- by the size: `mag` is held to 2 ^ (w - 1) - 1
pub clamp_pos : (w : Width) (n : ℕ) → clamp w (pos n) ≡ pos (min n (2 ^ hbits w - 1))
unfolding clamp
clamp_pos w n = go (ltb (2 ^ hbits w - 1) n) refl
  where
    go : (t : Bool) → ltb (2 ^ hbits w - 1) n ≡ t → cond t (most w) (pos n) ≡ pos (min n (2 ^ hbits w - 1))
    go true e = ap pos (omega (arith, ltb-true))
    go false e = ap pos (omega (arith, ltb-false))

pub clamp_neg : (w : Width) (n : ℕ) → clamp w (negsuc n) ≡ negsuc (min n (2 ^ hbits w - 1))
unfolding clamp
clamp_neg w n = go (ltb (2 ^ hbits w - 1) n) refl
  where
    go : (t : Bool) → ltb (2 ^ hbits w - 1) n ≡ t → cond t (least w) (negsuc n) ≡ negsuc (min n (2 ^ hbits w - 1))
    go true e = ap negsuc (omega (arith, ltb-true))
    go false e = ap negsuc (omega (arith, ltb-false))

pub clamp_fits : (w : Width) (z : ℤ) → SFits w (clamp w z)
clamp_fits w (pos n) = rw (clamp_pos w n) (record { sfits = omega (arith, pow_pos (hbits w)) })
clamp_fits w (negsuc n) = rw (clamp_neg w n) (record { sfits = omega (arith, pow_pos (hbits w)) })

-- the identity inside, idempotent, monotone
pub clamp_id : (w : Width) (z : ℤ) → SFits w z → clamp w z ≡ z
clamp_id w (pos n) h = clamp_pos w n ∙ ap pos (omega (arith, h.sfits))
clamp_id w (negsuc n) h = clamp_neg w n ∙ ap negsuc (omega (arith, h.sfits))

pub clamp_idem : (w : Width) (z : ℤ) → clamp w (clamp w z) ≡ clamp w z
clamp_idem w z = clamp_id w (clamp w z) (clamp_fits w z)

pub clamp_mono : (w : Width) (a b : ℤ) → a ≤ℤ b → clamp w a ≤ℤ clamp w b
clamp_mono w (pos a) (pos b) h = rw (clamp_pos w a, clamp_pos w b) (omega arith_ℤ)
clamp_mono w (pos a) (negsuc b) h = absurd h.le
clamp_mono w (negsuc a) (pos b) h = rw (clamp_neg w a, clamp_pos w b) (omega arith_ℤ)
clamp_mono w (negsuc a) (negsuc b) h = rw (clamp_neg w a, clamp_neg w b) (omega arith_ℤ)

-- a wider clamp before it changes nothing
pub clamp_clamp : (w v : Width) (z : ℤ) → hbits w ≤ hbits v → clamp w (clamp v z) ≡ clamp w z
clamp_clamp w v (pos n) h = rw (clamp_pos v n) (clamp_pos w (min n (2 ^ hbits v - 1)) ∙ ap pos (omega (arith, pow_mono h)) ∙ sym (clamp_pos w n))
clamp_clamp w v (negsuc n) h = rw (clamp_neg v n) (clamp_neg w (min n (2 ^ hbits v - 1)) ∙ ap negsuc (omega (arith, pow_mono h)) ∙ sym (clamp_neg w n))

-- a width has room for 1
more : (w : Width) → 1 < 2 ^ hbits w
more w8 = lit< tt
more w16 = lit< tt
more w32 = lit< tt
more w64 = lit< tt
more w128 = lit< tt

-- it keeps the sign of a difference, so a difference that is clamped may be tested for the two numbers
pub clamp_above : (w : Width) (a b : ℤ) → lt_z (pos 0) (clamp w (a -ℤ b)) ≡ lt_z b a
clamp_above w a b = go (lt_z b a) refl
  where
    one : clamp w (pos 1) ≡ pos 1
    one = clamp_id w (pos 1) (record { sfits = omega (arith, more w) })

    none : clamp w (pos 0) ≡ pos 0
    none = clamp_id w (pos 0) (record { sfits = pow_pos (hbits w) })

    go : (t : Bool) → lt_z b a ≡ t → lt_z (pos 0) (clamp w (a -ℤ b)) ≡ t
    go true e =
        let h : b <ℤ a = less_yes e in
        let l : clamp w (pos 1) ≤ℤ clamp w (a -ℤ b) = clamp_mono w (pos 1) (a -ℤ b) (omega (arith_ℤ, sub_ℤ_is a b)) in
        yes_less (pos 0) (clamp w (a -ℤ b)) (omega (arith_ℤ, rw one at l))
    go false e =
        let h : a ≤ℤ b = less_no e in
        let l : clamp w (a -ℤ b) ≤ℤ clamp w (pos 0) = clamp_mono w (a -ℤ b) (pos 0) (omega (arith_ℤ, sub_ℤ_is a b)) in
        no_less (pos 0) (clamp w (a -ℤ b)) (rw none at l)

-- ---- far beyond the range: a product with 2 ^ m is clamped alike for every m that is at least the width less 1
clamp_over : (w : Width) (n : ℕ) → 2 ^ hbits w ≤ n → clamp w (pos n) ≡ most w
clamp_over w n h = clamp_pos w n ∙ ap pos (omega (arith, pow_pos (hbits w)))

clamp_under : (w : Width) (n : ℕ) → 2 ^ hbits w ≤ n → clamp w (neg_ℤ (pos n)) ≡ least w
clamp_under w zero h = absurd (no (pow_pos (hbits w)))
  where
    no : 0 < 2 ^ hbits w → ⊥
    no p = omega arith
clamp_under w (suc n) h = clamp_neg w n ∙ ap negsuc (omega (arith, pow_pos (hbits w)))

pub clamp_far : (w : Width) (x : ℤ) (m n : ℕ) → hbits w ≤ m → hbits w ≤ n → clamp w (x *ℤ pos (2 ^ m)) ≡ clamp w (x *ℤ pos (2 ^ n))
clamp_far w (pos zero) m n h k = ap (λ (i : ℕ). clamp w (pos i)) (zero-mul (2 ^ m) ∙ sym (zero-mul (2 ^ n)))
clamp_far w (pos (suc a)) m n h k = over m h ∙ sym (over n k)
  where
    over : (m : ℕ) → hbits w ≤ m → clamp w (pos (suc a * 2 ^ m)) ≡ most w
    over m h = clamp_over w (suc a * 2 ^ m) (omega (arith, pow_mono {i = hbits w} {j = m} h))
clamp_far w (negsuc a) m n h k = under m h ∙ sym (under n k)
  where
    under : (m : ℕ) → hbits w ≤ m → clamp w (neg_ℤ (pos (suc a * 2 ^ m))) ≡ least w
    under m h = clamp_under w (suc a * 2 ^ m) (omega (arith, pow_mono {i = hbits w} {j = m} h))

-- so a count above the width less 1 may be held to that
pub clamp_min : (w : Width) (x : ℤ) (n : ℕ) → clamp w (x *ℤ pos (2 ^ min n (hbits w))) ≡ clamp w (x *ℤ pos (2 ^ n))
clamp_min w x n = go (leb n (hbits w)) refl
  where
    go : (t : Bool) → leb n (hbits w) ≡ t → clamp w (x *ℤ pos (2 ^ min n (hbits w))) ≡ clamp w (x *ℤ pos (2 ^ n))
    go true e = ap (λ (i : ℕ). clamp w (x *ℤ pos (2 ^ i))) (omega (arith, leb-true))
    go false e = clamp_far w x (min n (hbits w)) n (omega (arith, leb-false)) (omega (arith, leb-false))

-- ---- std's own: `x.clamp(low, high)` at the ends of the range of w, of a number of a wider v
ends : (w : Width) (z : ℤ) → int_max (least w) (int_min z (most w)) ≡ clamp w z
ends w (pos n) = rw (clamp_pos w n) (go (ltb (2 ^ hbits w - 1) n) refl)
  where
    go : (t : Bool) → ltb (2 ^ hbits w - 1) n ≡ t → int_max (least w) (cond t (most w) (pos n)) ≡ pos (min n (2 ^ hbits w - 1))
    go true e = ap pos (omega (arith, ltb-true))
    go false e = ap pos (omega (arith, ltb-false))
ends w (negsuc n) = rw (clamp_neg w n) (go (ltb (2 ^ hbits w - 1) n) refl)
  where
    go : (t : Bool) → ltb (2 ^ hbits w - 1) n ≡ t → cond t (least w) (negsuc n) ≡ negsuc (min n (2 ^ hbits w - 1))
    go true e = ap negsuc (omega (arith, ltb-true))
    go false e = ap negsuc (omega (arith, ltb-false))

pub held : (w v : Width) (z : ℤ) {r : ℤ} → SFits v z → T (leb (2 ^ hbits w) (2 ^ hbits v)) → r ≡ int_max (least w) (int_min (to_z v (of_z v z)) (most w)) → to_z w (of_z w (to_z v (of_z v r))) ≡ clamp w z
held w v z f t e =
    let k = rw (to_z-of_z f, ends w z) at e in
    let g = clamp_fits w z in
    rw (k, to_z-of_z (sfits_wider v (clamp w z) (2 ^ hbits w) g.sfits t)) (to_z-of_z g)
