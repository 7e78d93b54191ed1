-- Pairs of a list and a longer one.
use Rattle.std.proofs.Common.{suc, ◌≤◌, ◌≡◌, refl, ap, List, [], ◌∷◌, not-suc-le-zero, le_of_suc-le-suc, ℤ, length}
use Rattle.lists.specs.Lists.{pairwise}

-- the second list may be longer
pub length_pairwise_most : (f : ℤ → ℤ → ℤ) (xs ys : List ℤ) → length xs ≤ length ys → length (pairwise f xs ys) ≡ length xs
length_pairwise_most f [] ys h = refl
length_pairwise_most f (x ∷ xs) [] h = absurd (not-suc-le-zero h)
length_pairwise_most f (x ∷ xs) (y ∷ ys) h = ap suc (length_pairwise_most f xs ys (le_of_suc-le-suc h))
