-- gmed_n of TS 26.073: of five numbers the third in order.
use Rattle.std.specs.Prelude.{if◌then◌else◌, List, [], ◌∷◌, ℤ}
use Rattle.std.specs.Int.Signed.{lt_z}
use Rattle.lists.specs.Lists.{at}

-- a number put in its place of a list in order
unfoldable pub inserted : ℤ → List ℤ → List ℤ
inserted x [] = x ∷ []
inserted x (y ∷ ys) = if lt_z y x then y ∷ inserted x ys else x ∷ y ∷ ys

-- the numbers in order, the least first
unfoldable pub sorted : List ℤ → List ℤ
sorted [] = []
sorted (x ∷ xs) = inserted x (sorted xs)

-- the third in order
abbrev pub median : List ℤ → ℤ
median xs = at (sorted xs) 2
