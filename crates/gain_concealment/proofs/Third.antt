-- The third of five by comparisons, as the code takes it: it and the median are above a number where three of the five or more are.
use Rattle.std.proofs.Common.{◌≡◌, refl, sym, ap, subst, ◌∙◌, Bool, true, false, ◌&&◌, ◌||◌, List, [], ◌∷◌, ℕ, ◌+◌, ◌≤◌, arith, le-leb, leb, ℤ, length}
use borrow.Author.Tests.{lt-leb}
use lib.Signed.{lt_z}
use Rattle.std.specs.Int.{int_max, int_min}
use Rattle.std.proofs.lemmas.Int.{ints}
use Rattle.lists.specs.Lists.{at, one_if}
use Rattle.basicop.proofs.Ints.{arith_ℤ, ≤ℤ_antisym}
use Rattle.basicop.proofs.Tests.{less_yes, less_no, yes_less, no_less}
use Rattle.gain_concealment.specs.Median.{inserted, sorted, median}
use Rattle.gain_concealment.proofs.Fives.{five_entries}
use Rattle.gain_concealment.proofs.Sorting.{by_place, Rising, rising_sorted, length_sorted}

-- ---- how many numbers are above t
abbrev above : ℤ → List ℤ → ℕ
above t [] = 0
above t (x ∷ xs) = one_if (lt_z t x) + above t xs

above_inserted : (t x : ℤ) (ys : List ℤ) → above t (inserted x ys) ≡ above t (x ∷ ys)
unfolding inserted
above_inserted t x [] = refl
above_inserted t x (y ∷ ys) = by_place (λ (zs : List ℤ). above t zs ≡ above t (x ∷ y ∷ ys)) x y ys (λ e. omega (arith, above_inserted t x ys)) (λ e. refl)

above_sorted : (t : ℤ) (xs : List ℤ) → above t (sorted xs) ≡ above t xs
unfolding sorted
above_sorted t [] = refl
above_sorted t (x ∷ xs) = omega (arith, above_inserted t x (sorted xs), above_sorted t xs)

-- a number is known by the numbers that it is above
same_above : (x y : ℤ) → ((t : ℤ) → lt_z t x ≡ lt_z t y) → x ≡ y
same_above x y h =
    let own : (z : ℤ) → lt_z z z ≡ false = λ z. no_less z z (omega arith_ℤ) in
    ≤ℤ_antisym {a = x} {b = y} (less_no (h y ∙ own y)) (less_no (sym (h x) ∙ own x))

-- ---- the third of five in order
most_one : (s : Bool) → one_if s ≤ 1
unfolding one_if
most_one true = omega arith
most_one false = omega arith

third_above : (t a b c d e : ℤ) → Rising (a ∷ b ∷ c ∷ d ∷ e ∷ []) → leb 3 (above t (a ∷ b ∷ c ∷ d ∷ e ∷ [])) ≡ lt_z t c
unfolding one_if
third_above t a b c d e r = go (lt_z t c) refl
  where
    go : (s : Bool) → lt_z t c ≡ s → leb 3 (above t (a ∷ b ∷ c ∷ d ∷ e ∷ [])) ≡ s
    go true f =
        let h = less_yes {a = t} {b = c} f in
        le-leb 3 _ (rw (f, yes_less t d (omega (arith_ℤ, h, r)), yes_less t e (omega (arith_ℤ, h, r))) (omega arith))
    go false f =
        let h = less_no {a = t} {b = c} f in
        lt-leb 3 _ (rw (f, no_less t a (omega (arith_ℤ, h, r)), no_less t b (omega (arith_ℤ, h, r))) (omega (arith, most_one (lt_z t d), most_one (lt_z t e))))

-- ---- by comparisons
lower : ℤ → ℤ → ℤ
lower x y = int_min x y

higher : ℤ → ℤ → ℤ
higher x y = int_max x y

above_lower : (t x y : ℤ) → lt_z t (lower x y) ≡ lt_z t x && lt_z t y
unfolding lower
above_lower t x y = grind (arith, ints)

above_higher : (t x y : ℤ) → lt_z t (higher x y) ≡ lt_z t x || lt_z t y
unfolding higher
above_higher t x y = grind (arith, ints)

-- of tests: whether three of the five or more pass
abbrev passes : Bool → Bool → Bool → Bool → Bool → Bool
passes p q r s v =
    let low = (p && q) || (r && s) in
    let high = (p || q) && (r || s) in
    (low && high) || ((low || high) && v)

passes_three : (p q r s v : Bool) → passes p q r s v ≡ leb 3 (one_if p + (one_if q + (one_if r + (one_if s + (one_if v + 0)))))
unfolding one_if
passes_three p q r s v = grind arith

-- as the code has it
abbrev chosen : (ℤ → ℤ → ℤ) → (ℤ → ℤ → ℤ) → ℤ → ℤ → ℤ → ℤ → ℤ → ℤ
chosen min max a b c d e =
    let low = max (min a b) (min c d) in
    let high = min (max a b) (max c d) in
    max (min low high) (min (max low high) e)

chosen_above : (t a b c d e : ℤ) → lt_z t (chosen lower higher a b c d e) ≡ leb 3 (above t (a ∷ b ∷ c ∷ d ∷ e ∷ []))
chosen_above t a b c d e = simp (above_higher, above_lower) (passes_three (lt_z t a) (lt_z t b) (lt_z t c) (lt_z t d) (lt_z t e))

-- ---- the two are the same
median_above : (t : ℤ) (xs : List ℤ) → length xs ≡ 5 → leb 3 (above t xs) ≡ lt_z t (median xs)
median_above t xs e =
    let s = sorted xs in
    let five = five_entries s (length_sorted xs ∙ e) in
    let rises = subst Rising (sym five) (rising_sorted xs) in
    ap (leb 3) (sym (above_sorted t xs)) ∙ ap (λ (ys : List ℤ). leb 3 (above t ys)) (sym five) ∙ third_above t (at s 0) (at s 1) (at s 2) (at s 3) (at s 4) rises

chosen_is : (xs : List ℤ) → length xs ≡ 5 → chosen lower higher (at xs 0) (at xs 1) (at xs 2) (at xs 3) (at xs 4) ≡ median xs
chosen_is xs e =
    same_above _ _ (λ t. chosen_above t (at xs 0) (at xs 1) (at xs 2) (at xs 3) (at xs 4)
    ∙ ap (λ (ys : List ℤ). leb 3 (above t ys)) (five_entries xs e) ∙ median_above t xs e)

pub third_is : (xs : List ℤ) → length xs ≡ 5 → chosen int_min int_max (at xs 0) (at xs 1) (at xs 2) (at xs 3) (at xs 4) ≡ median xs
unfolding lower higher
third_is xs e = chosen_is xs e
