-- The largest distance from zero, the mark by its tests, and both beside the highest sample; any of the flags.
use Rattle.std.proofs.Common.{◌≡◌, refl, sym, ◌∙◌, subst, Bool, true, false, List, [], ◌∷◌, map, fold, max, ℕ, zero, suc, ◌<◌, ◌≤◌, arith, le-leb, leb-false, leb, leb-true, ℤ, pos, negsuc, neg_ℤ, nat_abs, length, ◌≤ℤ◌, ◌<ℤ◌, w16, SFits}
use mathlib.Core.Bool.{beq}
use lib.ListN.{length-map}
use lib.Signed.{nat_abs-le}
use Rattle.std.specs.List.{list_any}
use Rattle.lists.specs.Lists.{at, minus}
use Rattle.lists.proofs.Entries.{at_map}
use borrow.Author.Differences.{neg_is, same_in}
use borrow.Author.Tests.{lt-leb}
use Rattle.basicop.proofs.Ints.{arith_ℤ}
use Rattle.basicop.proofs.Range.{nat_abs_is}
use Rattle.lines.specs.Lines.{largest, peak_of, any_of, mark_of}
use Rattle.lines.specs.Peaks.{larger, highest, height, PeakSides, MarkSides}
use Rattle.lines.proofs.Highest.{larger_by, larger_over, larger_under, highest_keeps, highest_over}

-- ---- the peak
-- as the code folds it
folded_from : (a : ℕ) (xs : List ℤ) → fold (λ (most : ℕ) (x : ℤ). max most (nat_abs x)) a xs ≡ max a (peak_of xs)
unfolding peak_of largest
folded_from a [] = omega arith
folded_from a (x ∷ xs) = omega (arith, folded_from (max a (nat_abs x)) xs)

pub peak_folded : (xs : List ℤ) → fold (λ (most : ℕ) (x : ℤ). max most (nat_abs x)) 0 xs ≡ peak_of xs
peak_folded xs = folded_from 0 xs ∙ omega arith

-- no sample is farther from zero,
pub peak_over : (xs : List ℤ) (i : ℕ) → i < length xs → nat_abs (at xs i) ≤ peak_of xs
unfolding peak_of largest
peak_over [] i h = absurd (omega (arith, h))
peak_over (x ∷ xs) zero h = omega arith
peak_over (x ∷ xs) (suc i) h = omega (arith, peak_over xs i (omega (arith, h)))

-- and it is the least of which that is said
pub peak_under : (xs : List ℤ) (m : ℕ) → ((i : ℕ) → i < length xs → nat_abs (at xs i) ≤ m) → peak_of xs ≤ m
unfolding peak_of largest
peak_under [] m f = omega arith
peak_under (x ∷ xs) m f = omega (arith, f 0 (omega arith), peak_under xs m (λ i h. f (suc i) (omega (arith, h))))

-- the peak of 16-bit numbers
pub peak_most : (xs : List ℤ) → ((i : ℕ) → SFits w16 (at xs i)) → peak_of xs ≤ 32768
peak_most xs f = peak_under xs 32768 (λ i h. nat_abs-le (at xs i) (f i).sfits)

-- ---- the peak from either side of zero
either_side : (x m : ℤ) → x ≤ℤ m → neg_ℤ x ≤ℤ m → pos (nat_abs x) ≤ℤ m
either_side (pos n) m h k = h
either_side (negsuc n) m h k = k

module _ (samples : List ℤ) where
  abbrev sides : ℤ
  sides = larger (highest samples) (highest (map neg_ℤ samples))

  -- neither side is above the peak
  above : highest samples ≤ℤ pos (peak_of samples)
  above = highest_keeps (λ (z : ℤ). z ≤ℤ pos (peak_of samples)) (omega arith_ℤ) samples (λ i h. omega (arith_ℤ, nat_abs_is (at samples i), peak_over samples i h))

  below : highest (map neg_ℤ samples) ≤ℤ pos (peak_of samples)
  below =
      highest_keeps (λ (z : ℤ). z ≤ℤ pos (peak_of samples)) (omega arith_ℤ) (map neg_ℤ samples)
      (λ i h. let l : i < length samples = omega (arith, length-map samples neg_ℤ, h) in
      rw (← at_map neg_ℤ samples i l) (omega (arith_ℤ, neg_is (at samples i), nat_abs_is (at samples i), peak_over samples i l)))

  sides_under : sides ≤ℤ pos (peak_of samples)
  sides_under = larger_under (highest samples) (highest (map neg_ℤ samples)) (pos (peak_of samples)) above below

  -- each sample lies within both
  within : (i : ℕ) → i < length samples → pos (nat_abs (at samples i)) ≤ℤ sides
  within i h =
      let over = larger_over (highest samples) (highest (map neg_ℤ samples)) in
      let l : i < length (map neg_ℤ samples) = omega (arith, length-map samples neg_ℤ, h) in
      let negated : neg_ℤ (at samples i) ≤ℤ highest (map neg_ℤ samples) = subst (λ (z : ℤ). z ≤ℤ highest (map neg_ℤ samples)) (sym (at_map neg_ℤ samples i h)) (highest_over (map neg_ℤ samples) i l) in
      either_side (at samples i) sides (omega (arith_ℤ, over.0, highest_over samples i h)) (omega (arith_ℤ, over.1, negated))

peak_within : (samples : List ℤ) (z : ℤ) → ((i : ℕ) → i < length samples → pos (nat_abs (at samples i)) ≤ℤ z) → pos 0 ≤ℤ z → pos (peak_of samples) ≤ℤ z
peak_within samples (pos n) f h = omega (arith_ℤ, peak_under samples n (λ i l. omega (arith_ℤ, f i l)))
peak_within samples (negsuc n) f h = absurd h.le

sides_over : (samples : List ℤ) → pos 0 ≤ℤ sides samples
unfolding highest
sides_over [] = omega arith_ℤ
sides_over (x ∷ xs) = omega (arith_ℤ, within (x ∷ xs) 0 (omega arith))

pub peak_sides : PeakSides
peak_sides samples = same_in _ _ (omega (arith_ℤ, sides_under samples, peak_within samples (sides samples) (within samples) (sides_over samples)))

-- ---- the mark
pub mark_loud : (peak : ℕ) (flags : List Bool) → 32760 ≤ peak → 0x4C ≡ mark_of peak flags
unfolding mark_of
mark_loud peak flags h = rw (le-leb 32760 peak h)

module _ (peak : ℕ) (flags : List Bool) (h : peak < 32760) where
  pub mark_retried : any_of flags ≡ true → 0x52 ≡ mark_of peak flags
  unfolding mark_of
  mark_retried f = rw (lt-leb 32760 peak h, f)

  pub mark_plain : any_of flags ≡ false → 0x2D ≡ mark_of peak flags
  unfolding mark_of
  mark_plain f = rw (lt-leb 32760 peak h, f)

-- ---- the mark from either side of zero
height_from : (n : ℕ) (z : ℤ) → pos n ≤ℤ z → n ≤ height z
height_from n (pos m) h = omega (arith_ℤ, h)
height_from n (negsuc m) h = absurd h.le

height_under : (n : ℕ) (z : ℤ) → z ≤ℤ pos n → height z ≤ n
height_under n (pos m) h = omega (arith_ℤ, h)
height_under n (negsuc m) h = omega arith

loud_side : (peak : ℕ) (a b : ℤ) → pos peak ≡ larger a b → b <ℤ pos 32760 → 32760 ≤ peak → 32760 ≤ height a
loud_side peak a b e h l =
    larger_by (λ (z : ℤ). pos peak ≡ z → 32760 ≤ height a) a b (λ m f. absurd (omega (arith_ℤ, f, h, l))) (λ m f. height_from 32760 a (omega (arith_ℤ, f, l))) e

module _ (samples : List ℤ) (flags : List Bool) where
  negated : ((i : ℕ) → i < length samples → minus 32760 <ℤ at samples i) → (i : ℕ) → i < length (map neg_ℤ samples) → at (map neg_ℤ samples) i <ℤ pos 32760
  negated f i h =
      let l : i < length samples = omega (arith, length-map samples neg_ℤ, h) in
      rw (← at_map neg_ℤ samples i l) (omega (arith_ℤ, f i l, neg_is (at samples i)))

  kept : ((i : ℕ) → i < length samples → minus 32760 <ℤ at samples i) → mark_of (peak_of samples) flags ≡ mark_of (height (highest samples)) flags
  unfolding mark_of
  kept f = go (leb 32760 (peak_of samples)) refl
    where
      go : (t : Bool) → leb 32760 (peak_of samples) ≡ t → mark_of (peak_of samples) flags ≡ mark_of (height (highest samples)) flags
      go true e =
          let below : highest (map neg_ℤ samples) <ℤ pos 32760 = highest_keeps (λ (z : ℤ). z <ℤ pos 32760) (omega arith_ℤ) (map neg_ℤ samples) (negated f) in
          rw (e, le-leb 32760 (height (highest samples)) (loud_side (peak_of samples) (highest samples) (highest (map neg_ℤ samples)) (peak_sides samples) below (leb-true 32760 (peak_of samples) e))) refl
      go false e =
          let under : height (highest samples) ≤ peak_of samples = height_under (peak_of samples) (highest samples) (above samples) in
          rw (e, lt-leb 32760 (height (highest samples)) (omega (arith, under, leb-false 32760 (peak_of samples) e))) refl

  loud : (i : ℕ) → i < length samples → at samples i ≤ℤ minus 32760 → mark_of (peak_of samples) flags ≡ 0x4C
  loud i h l = sym (mark_loud (peak_of samples) flags (omega (arith_ℤ, l, nat_abs_is (at samples i), peak_over samples i h)))

pub mark_sides : MarkSides
mark_sides samples flags = record { kept = kept samples flags; loud = loud samples flags }

-- ---- the flags
pub any_listed : (flags : List Bool) → list_any (λ (flag : Bool). beq flag true) flags ≡ any_of flags
unfolding any_of
any_listed [] = refl
any_listed (true ∷ flags) = refl
any_listed (false ∷ flags) = any_listed flags
