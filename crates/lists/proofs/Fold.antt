-- A fold over a list, by what stands after each of its entries.
use Rattle.std.proofs.Common.{ℕ, suc, ◌<◌, ◌≡◌, refl, List, [], ◌∷◌, arith, length, get_or}
use mathlib.Core.List.{foldl}

-- t k is what stands after k entries
pub fold_counted : {A S : Type 0} (f : S → A → S) (t : ℕ → S) (xs : List A) → ((k : ℕ) (d : A) → k < length xs → t (suc k) ≡ f (t k) (get_or xs k d)) → foldl f (t 0) xs ≡ t (length xs)
fold_counted f t [] e = refl
fold_counted f t (x ∷ xs) e = rw (← e 0 x (omega arith)) (fold_counted f (λ k. t (suc k)) xs (λ k d h. e (suc k) d (omega arith)))
