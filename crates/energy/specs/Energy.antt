-- energy_new of TS 26.073: the energy of a subframe, from its doubled squares.
use Rattle.std.specs.Prelude.{if◌then◌else◌, ℤ, pos}
use mathlib.Core.List.{List, foldl}
use Rattle.lists.specs.Lists.{eq_z}
use Rattle.basicop.specs.Ops.{quartered, l_mac, l_shr}

-- L_mac over all numbers from 0: the first is L_mult. Post_Filter takes it of its impulse response too
unfoldable pub squares : List ℤ → ℤ
squares xs = foldl (λ (s x : ℤ). l_mac s x x) (pos 0) xs

-- at the limit it starts again with every sample >> 2, and is then not shifted
unfoldable pub energy : List ℤ → ℤ
energy xs =
    let s = squares xs in
    if eq_z s (pos 2147483647) then squares (quartered xs) else l_shr s (pos 4)
