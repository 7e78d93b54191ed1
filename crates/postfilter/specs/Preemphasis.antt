-- preemphasis of TS 26.073: each residual, less the tilt times the one before it. The first has the residual that is carried over before it.
use Rattle.std.specs.Prelude.{List, ◌∷◌, ℤ}
use Rattle.lists.specs.Lists.{pairwise}
use Rattle.basicop.specs.Ops.{sub, mult}

-- of the residual r and the one before it, neither changed yet
abbrev pub emphasised : ℤ → ℤ → ℤ → ℤ
emphasised tilt r before = sub r (mult tilt before)

unfoldable pub preemphasised : ℤ → ℤ → List ℤ → List ℤ
preemphasised tilt carried res = pairwise (emphasised tilt) res (carried ∷ res)
