-- Pow2 of TS 26.073: 2 to the power of exponent and fraction (Q15), between the entries of a table. The caller brings the table, 33 numbers (Q14) as the
-- standard prints them.
use Rattle.std.specs.Prelude.{List, ℤ, pos}
use Rattle.basicop.specs.Ops.{sub, l_mult, l_shr_r}
use Rattle.basicop.specs.Interpolation.{position_of, interpolated}
use Rattle.basicop.specs.declared.Position.{Position}

-- where 32 times the fraction, doubled, lies in the table
abbrev pub power_position : ℤ → Position
power_position fraction = position_of (pos 0) (l_mult fraction (pos 32))

unfoldable pub pow2 : List ℤ → ℤ → ℤ → ℤ
pow2 table exponent fraction = l_shr_r (interpolated table (power_position fraction)) (sub (pos 30) exponent)
