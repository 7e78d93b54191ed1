-- The way between two entries of a table, as Inv_sqrt, Log2 and Pow2 of TS 26.073 go it.
use Rattle.std.specs.Prelude.{List, ℤ, pos, ◌+ℤ◌}
use Rattle.lists.specs.Lists.{entry}
use Rattle.basicop.specs.Ops.{low_bits, sub, l_msu, l_shr, extract_h, l_deposit_h}
use Rattle.basicop.specs.declared.Position.{Position}

-- where x lies in a table: its high word, less a base, is the index; x is shifted by 1, and its low 15 bits are the fraction.
-- Inv_sqrt: base 16, of what is normalised and shifted by 9. Log2: base 32, of the same. Pow2: base 0, of L_mult(fraction, 32)
abbrev pub position_of : ℤ → ℤ → Position
position_of base x = record { index = sub (extract_h x) base; fraction = low_bits 15 (l_shr x (pos 1)) }

-- fraction / 32768 of the way from an entry to the next
abbrev pub between : ℤ → ℤ → ℤ → ℤ
between low next fraction = l_msu (l_deposit_h low) (sub low next) fraction

-- the same at a position of a table
abbrev pub interpolated : List ℤ → Position → ℤ
interpolated table p = between (entry table p.index) (entry table (p.index +ℤ pos 1)) p.fraction
