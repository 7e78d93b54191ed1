-- Inv_sqrt of TS 26.073: 1 / sqrt(x), between the entries of a table.
use Rattle.std.specs.Prelude.{if◌then◌else◌, List, [], ◌∷◌, ℤ, pos}
use Rattle.std.specs.Int.Signed.{le_z}
use Rattle.lists.specs.Lists.{eq_z}
use Rattle.basicop.specs.Ops.{low_bits, add, sub, shr, l_shl, l_shr, norm_l}
use Rattle.basicop.specs.Interpolation.{position_of, interpolated}
use Rattle.basicop.specs.declared.Position.{Position}

-- table: 49 entries (Q15)
unfoldable pub inverse_table : List ℤ
inverse_table =
    pos 32767 ∷ pos 31790 ∷ pos 30894 ∷ pos 30070 ∷ pos 29309 ∷ pos 28602 ∷ pos 27945 ∷ pos 27330 ∷ pos 26755 ∷ pos 26214 ∷
    pos 25705 ∷ pos 25225 ∷ pos 24770 ∷ pos 24339 ∷ pos 23930 ∷ pos 23541 ∷ pos 23170 ∷ pos 22817 ∷ pos 22479 ∷ pos 22155 ∷
    pos 21845 ∷ pos 21548 ∷ pos 21263 ∷ pos 20988 ∷ pos 20724 ∷ pos 20470 ∷ pos 20225 ∷ pos 19988 ∷ pos 19760 ∷ pos 19539 ∷
    pos 19326 ∷ pos 19119 ∷ pos 18919 ∷ pos 18725 ∷ pos 18536 ∷ pos 18354 ∷ pos 18176 ∷ pos 18004 ∷ pos 17837 ∷ pos 17674 ∷
    pos 17515 ∷ pos 17361 ∷ pos 17211 ∷ pos 17064 ∷ pos 16921 ∷ pos 16782 ∷ pos 16646 ∷ pos 16514 ∷ pos 16384 ∷ []

-- x normalised, n being norm_l x; halved where the exponent, 30 - n, is even
unfoldable pub root_scaled : ℤ → ℤ → ℤ
root_scaled x n =
    let y = l_shl x n in
    if eq_z (low_bits 1 (sub (pos 30) n)) (pos 0) then l_shr y (pos 1) else y

-- where that lies in the table
abbrev pub root_position : ℤ → Position
root_position y = position_of (pos 16) (l_shr y (pos 9))

-- the last shift: half the exponent, and 1
abbrev pub root_shift : ℤ → ℤ
root_shift n = add (shr (sub (pos 30) n) (pos 1)) (pos 1)

unfoldable pub inverse_root : ℤ → ℤ
inverse_root x =
    let n = norm_l x in
    let y = root_scaled x n in
    if le_z x (pos 0) then pos 1073741823 else l_shr (interpolated inverse_table (root_position y)) (root_shift n)
