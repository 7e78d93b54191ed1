-- A recursion that is fed its own samples, and the first of its samples at which a number leaves the range of 32 bits:
-- what both machines are written with (Synthesis.antt: clamped steps; Whole.antt: whole numbers).
use Rattle.std.specs.Prelude.{ℕ, suc, ◌-◌, Bool, false, ◌||◌, if◌then◌else◌, List, [], ◌∷◌, ◌++◌, ℤ, length}
use Rattle.std.specs.Int.Signed.{lt_z}
use Rattle.std.specs.Int.{w32}
use Rattle.lists.specs.Lists.{at}
use Rattle.basicop.specs.Ops.{least, most}

-- z lies outside the signed 32-bit range
unfoldable pub outside : ℤ → Bool
outside z = lt_z z (least w32) || lt_z (most w32) z

-- y(n - k), where the list y ends with y(n - 1)
abbrev pub ago : List ℤ → ℕ → ℤ
ago y k = at y (length y - k)

-- the samples y, and after them one for each x of xs, which `make` makes from x and all the samples before it
unfoldable pub recursion : (ℤ → List ℤ → ℤ) → List ℤ → List ℤ → List ℤ
recursion make [] y = y
recursion make (x ∷ xs) y = recursion make xs (y ++ (make x y ∷ []))

-- for each of these samples, in order, the list of numbers that `numbers` gives for it
unfoldable pub step_numbers : (ℤ → List ℤ → ℤ) → (ℤ → List ℤ → List ℤ) → List ℤ → List ℤ → List (List ℤ)
step_numbers make numbers [] y = []
step_numbers make numbers (x ∷ xs) y = numbers x y ∷ step_numbers make numbers xs (y ++ (make x y ∷ []))

-- some number of the list lies outside
unfoldable pub some_outside : List ℤ → Bool
some_outside [] = false
some_outside (z ∷ zs) = outside z || some_outside zs

-- some number of some list lies outside
unfoldable pub some_list_outside : List (List ℤ) → Bool
some_list_outside [] = false
some_list_outside (zs ∷ zss) = some_outside zs || some_list_outside zss

-- the place of the first list with a number outside, from 0; the count of the lists where there is none
unfoldable pub first_list_outside : List (List ℤ) → ℕ
first_list_outside [] = 0
first_list_outside (zs ∷ zss) = if some_outside zs then 0 else suc (first_list_outside zss)
