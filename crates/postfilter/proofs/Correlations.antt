-- The correlation of an impulse response: as a fold, and that it is at most the energy, both clamped, for every list of numbers.
use Rattle.std.proofs.Common.{◌≡◌, refl, sym, ap, subst, ◌∙◌, Bool, true, false, List, [], ◌∷◌, ℕ, zero, suc, ◌+◌, ◌*◌, ◌-◌, ◌<◌, ◌≤◌, le_refl, arith, leb-true, leb-false, leb, lit<, length, take, drop, get_or, take-suc, ℤ, pos, negsuc, nat_abs, ◌+ℤ◌, ◌*ℤ◌, ◌≤ℤ◌, w16, w32, SFits}
use mathlib.Core.List.{foldl, foldl-append}
use Rattle.std.proofs.Math.Seq.{take-length}
use Rattle.std.specs.Int.{Width}
use Rattle.std.specs.List.{zip}
use Rattle.std.proofs.lemmas.List.{get_or_default}
use Rattle.std.proofs.lemmas.Slice.Zip.{length-zip, get_or-zip}
use Rattle.lists.specs.Lists.{at, iter}
use Rattle.lists.proofs.Entries.{stretch_length, stretch_at}
use Rattle.lists.proofs.Fold.{fold_counted}
use Rattle.basicop.specs.Ops.{clamp, l_add, l_mult, l_mac}
use Rattle.basicop.proofs.Ints.{arith_ℤ}
use Rattle.std.proofs.lemmas.Int.{unsigned_abs-mul}
use Rattle.basicop.proofs.Range.{nat_abs_is, nat_abs_add}
use Rattle.basicop.proofs.Shift.{asr_mono}
use Rattle.basicop.proofs.Clamp.{clamp_pos, clamp_neg}
use Rattle.basicop.proofs.Fits.{l_add_fits, extract_h_fits}
use Rattle.energy.specs.Energy.{squares}
use Rattle.energy.proofs.Sums.{with_square, exact, squares_is, squares_range}
use Rattle.postfilter.specs.Tilt.{correlation_step, correlation, r0, r1}

-- a clamp makes no number larger in size
clamp_abs : (w : Width) (z : ℤ) → nat_abs (clamp w z) ≤ nat_abs z
clamp_abs w (pos n) = rw (clamp_pos w n) (omega arith)
clamp_abs w (negsuc n) = rw (clamp_neg w n) (omega arith)

-- what the correlation's step gives is at most |s| + 2 |a| |b|
lag_abs : (s a b : ℤ) → nat_abs (l_add s (l_mult a b)) ≤ nat_abs s + 2 * (nat_abs a * nat_abs b)
unfolding l_add l_mult
lag_abs s a b =
    let p = clamp w32 (pos 2 *ℤ (a *ℤ b)) in
    omega (arith, clamp_abs w32 (s +ℤ p), nat_abs_add s p, clamp_abs w32 (pos 2 *ℤ (a *ℤ b)), unsigned_abs-mul (pos 2) (a *ℤ b), ap (λ (n : ℕ). 2 * n) (unsigned_abs-mul a b))

-- 2 a b ≤ a a + b b
am_gm : (a b : ℕ) → 2 * (a * b) ≤ a * a + b * b
am_gm a b = go (leb a b) refl
  where
    gap : (a k : ℕ) → 2 * (a * (a + k)) ≤ a * a + (a + k) * (a + k)
    gap a k = omega arith

    up_to : (a b : ℕ) → a ≤ b → 2 * (a * b) ≤ a * a + b * b
    up_to a b h =
        let e : a + (b - a) ≡ b = omega arith in
        subst (λ (c : ℕ). 2 * (a * c) ≤ a * a + c * c) e (gap a (b - a))

    go : (t : Bool) → leb a b ≡ t → 2 * (a * b) ≤ a * a + b * b
    go true e = up_to a b (leb-true a b e)
    go false e = omega (arith, up_to b a (omega (arith, leb-false a b e)))

-- 22 numbers but the last, each beside the next; the correlation is a fold over them
abbrev pub neighbours : List ℤ → List (ℤ × ℤ)
neighbours h = zip h (take 21 (drop 1 h))

pub fold_neighbours : (h : List ℤ) → length h ≡ 22 → foldl (λ (s : ℤ) (p : ℤ × ℤ). l_mac s p.0 p.1) (pos 0) (neighbours h) ≡ correlation h
unfolding correlation iter
fold_neighbours h l =
    let next = take 21 (drop 1 h) in
    let ln : length next ≡ 21 = stretch_length h 1 21 (omega (arith, l)) in
    let n : length (neighbours h) ≡ length h - 1 = length-zip h next ∙ omega (arith, l, ln) in
    rw n at (fold_counted (λ (s : ℤ) (p : ℤ × ℤ). l_mac s p.0 p.1) (λ k. iter (correlation_step h) k (pos 0)) (neighbours h) (λ k d b.
    let i : k < 21 = omega (arith, n, l) in
    let e : 1 + k ≡ suc k = omega arith in
    let there : get_or next k d.1 ≡ at h (suc k) = get_or_default next k d.1 (pos 0) (omega (arith, ln)) ∙ rw (← e) (sym (stretch_at h 1 21 k i)) in
    rw (get_or-zip h next k d (omega (arith, l)) (omega (arith, ln)), get_or_default h k d.0 (pos 0) (omega (arith, l)), there)))

-- one square more
with_next : (h : List ℤ) (k : ℕ) → k < length h → exact (take (suc k) h) ≡ with_square (exact (take k h)) (at h k)
with_next h k l = rw (take-suc h k (pos 0) l, foldl-append with_square 0 (take k h))

-- after k products of the correlation and k + 1 squares: the exact sum is not below the size of the correlation with half of the last square
below : (h : List ℤ) (k : ℕ) → k < length h → nat_abs (iter (correlation_step h) k (pos 0)) + nat_abs (at h k) * nat_abs (at h k) ≤ exact (take (suc k) h)
unfolding iter
below h zero l = rw (with_next h 0 l) (omega arith)
below h (suc k) l =
    rw (with_next h (suc k) l)
    (omega (arith, below h k (omega arith), lag_abs (iter (correlation_step h) k (pos 0)) (at h k) (at h (suc k)), am_gm (nat_abs (at h k)) (nat_abs (at h (suc k)))))

correlation_fits : (h : List ℤ) (k : ℕ) → SFits w32 (iter (correlation_step h) k (pos 0))
unfolding iter
correlation_fits h zero = record { sfits = lit< tt }
correlation_fits h (suc k) = l_add_fits _ _

-- the clamped correlation is at most the clamped sum of squares, for every list
pub correlation_le_squares : (h : List ℤ) → correlation h ≤ℤ squares h
unfolding correlation iter
correlation_le_squares [] = (squares_range []).from
correlation_le_squares (x ∷ xs) =
    let h = x ∷ xs in
    let n = length xs in
    let c = iter (correlation_step h) n (pos 0) in
    let e : length h - 1 ≡ n = omega arith in
    let b = rw (take-length h) at (below h n (le_refl (suc n))) in
    rw (e, squares_is h) (omega (arith_ℤ, b, nat_abs_is c, correlation_fits h n))

pub r1_le_r0 : (h : List ℤ) → r1 h ≤ℤ r0 h
r1_le_r0 h = asr_mono (correlation h) (squares h) 16 (correlation_le_squares h)

pub r0_fits : (h : List ℤ) → SFits w16 (r0 h)
r0_fits h = extract_h_fits (squares h) (squares_range h).fits
