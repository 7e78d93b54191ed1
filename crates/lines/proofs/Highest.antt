-- The larger of two integers, and the highest of a list, folded from its first entry.
use Rattle.std.proofs.Common.{◌≡◌, refl, Bool, true, false, cond, List, [], ◌∷◌, fold, ℕ, zero, suc, ◌<◌, arith, ℤ, pos, int_lt, length, ◌≤ℤ◌, ◌<ℤ◌}
use Rattle.lists.specs.Lists.{at}
use Rattle.basicop.proofs.Ints.{arith_ℤ}
use Rattle.basicop.proofs.Tests.{less_yes, less_no}
use Rattle.lines.specs.Peaks.{larger, highest}

-- ---- the larger of two
-- what holds of either where it is the larger holds of the larger
pub larger_by : (P : ℤ → Type 0) (a b : ℤ) → (a <ℤ b → P b) → (b ≤ℤ a → P a) → P (larger a b)
larger_by P a b f g = go (int_lt a b) refl
  where
    go : (t : Bool) → int_lt a b ≡ t → P (cond t b a)
    go true e = f (less_yes e)
    go false e = g (less_no e)

pub larger_over : (a b : ℤ) → (a ≤ℤ larger a b) × (b ≤ℤ larger a b)
larger_over a b = larger_by (λ (z : ℤ). (a ≤ℤ z) × (b ≤ℤ z)) a b (λ h. (omega arith_ℤ, omega arith_ℤ)) (λ h. (omega arith_ℤ, omega arith_ℤ))

pub larger_under : (a b c : ℤ) → a ≤ℤ c → b ≤ℤ c → larger a b ≤ℤ c
larger_under a b c h k = larger_by (λ (z : ℤ). z ≤ℤ c) a b (λ l. k) (λ l. h)

-- ---- the highest of a list
fold_keeps : (P : ℤ → Type 0) (x : ℤ) (xs : List ℤ) → P x → ((i : ℕ) → i < length xs → P (at xs i)) → P (fold larger x xs)
fold_keeps P x [] p f = p
fold_keeps P x (y ∷ ys) p f = fold_keeps P (larger x y) ys (larger_by P x y (λ h. f 0 (omega arith)) (λ h. p)) (λ i h. f (suc i) (omega (arith, h)))

-- what holds of 0 and of every entry holds of it
pub highest_keeps : (P : ℤ → Type 0) → P (pos 0) → (xs : List ℤ) → ((i : ℕ) → i < length xs → P (at xs i)) → P (highest xs)
unfolding highest
highest_keeps P z [] f = z
highest_keeps P z (x ∷ xs) f = fold_keeps P x xs (f 0 (omega arith)) (λ i h. f (suc i) (omega (arith, h)))

fold_over : (x : ℤ) (xs : List ℤ) (i : ℕ) → i < suc (length xs) → at (x ∷ xs) i ≤ℤ fold larger x xs
fold_over x [] zero h = omega arith_ℤ
fold_over x [] (suc i) h = absurd (omega (arith, h))
fold_over x (y ∷ ys) zero h = omega (arith_ℤ, (larger_over x y).0, fold_over (larger x y) ys 0 (omega arith))
fold_over x (y ∷ ys) (suc zero) h = omega (arith_ℤ, (larger_over x y).1, fold_over (larger x y) ys 0 (omega arith))
fold_over x (y ∷ ys) (suc (suc i)) h = fold_over (larger x y) ys (suc i) (omega (arith, h))

-- no entry is above it
pub highest_over : (xs : List ℤ) (i : ℕ) → i < length xs → at xs i ≤ℤ highest xs
unfolding highest
highest_over [] i h = absurd (omega (arith, h))
highest_over (x ∷ xs) i h = fold_over x xs i h
