-- Log2 of TS 26.073: the logarithm to base 2, between the entries of a table. The caller brings the table, 33 numbers (Q15) as the standard prints them.
use Rattle.std.specs.Prelude.{if◌then◌else◌, List, ℤ, pos}
use Rattle.std.specs.Int.Signed.{le_z}
use Rattle.basicop.specs.Ops.{sub, l_shl, l_shr, extract_h, norm_l}
use Rattle.basicop.specs.Interpolation.{position_of, interpolated}
use Rattle.basicop.specs.declared.Position.{Position}
use Rattle.logarithm.specs.declared.Logarithm.{Logarithm}

-- where x normalised lies in the table: by its bits 25 to 31, less 32, and the fraction by bits 10 to 24
abbrev pub log_position : ℤ → Position
log_position x = position_of (pos 32) (l_shr (l_shl x (norm_l x)) (pos 9))

-- exponent, and fraction (Q15); both 0 where x is 0 or less
unfoldable pub log2 : List ℤ → ℤ → Logarithm
log2 table x =
    if le_z x (pos 0)
    then record { exponent = pos 0; fraction = pos 0 }
    else record { exponent = sub (pos 30) (norm_l x); fraction = extract_h (interpolated table (log_position x)) }
