-- Weight_Ai of TS 26.073: a coefficient row, each coefficient but the first by its factor; and the factors that Post_Filter has for MR74.
use Rattle.std.specs.Prelude.{List, [], ◌∷◌, ℤ, pos, drop}
use Rattle.lists.specs.Lists.{at, pairwise}
use Rattle.basicop.specs.Ops.{l_mult, round}

-- gamma3: the powers of 0.55 (Q15)
unfoldable pub numerator : List ℤ
numerator = pos 18022 ∷ pos 9912 ∷ pos 5451 ∷ pos 2998 ∷ pos 1649 ∷ pos 907 ∷ pos 499 ∷ pos 274 ∷ pos 151 ∷ pos 83 ∷ []

-- gamma4: the powers of 0.7 (Q15)
unfoldable pub denominator : List ℤ
denominator = pos 22938 ∷ pos 16057 ∷ pos 11240 ∷ pos 7868 ∷ pos 5508 ∷ pos 3856 ∷ pos 2699 ∷ pos 1889 ∷ pos 1322 ∷ pos 925 ∷ []

-- a coefficient by its factor
abbrev pub weighted_by : ℤ → ℤ → ℤ
weighted_by c factor = round (l_mult c factor)

unfoldable pub weighted : List ℤ → List ℤ → List ℤ
weighted a factors = at a 0 ∷ pairwise weighted_by (drop 1 a) factors
