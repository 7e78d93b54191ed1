-- The bytes of numbers: how many they are, and those of two lists.
use Rattle.std.proofs.Common.{◌≡◌, refl, List, [], ◌∷◌, ◌++◌, ◌*◌, arith, ℤ, length}
use Rattle.coding.specs.Bytes.{bytes_of}

pub bytes_length : (xs : List ℤ) → length (bytes_of xs) ≡ 2 * length xs
unfolding bytes_of
bytes_length [] = refl
bytes_length (x ∷ xs) = let h = bytes_length xs in omega (arith, h)

pub bytes_append : (xs ys : List ℤ) → bytes_of (xs ++ ys) ≡ bytes_of xs ++ bytes_of ys
unfolding bytes_of
bytes_append [] ys = refl
bytes_append (x ∷ xs) ys = rw (bytes_append xs ys)
