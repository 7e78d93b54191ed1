-- Residu of TS 26.073. a: the row a0, a1, .. a10; x: the ten inputs before the subframe and its forty.
use Rattle.std.specs.Prelude.{List, ℕ, suc, ◌+◌, ◌-◌, ℤ, pos}
use Rattle.lists.specs.Lists.{at, iter, tab}
use Rattle.basicop.specs.Ops.{l_mult, l_mac, l_shl, round}

-- s = L_mac(s, a[j + 1], x[p - (j + 1)])
abbrev pub residual_step : List ℤ → List ℤ → ℕ → ℕ → ℤ → ℤ
residual_step a x p j s = l_mac s (at a (suc j)) (at x (p - suc j))

-- s = L_mult(x[p], a[0]), and ten steps
unfoldable pub residual_sum : List ℤ → List ℤ → ℕ → ℤ
residual_sum a x p = iter (residual_step a x p) 10 (l_mult (at x p) (at a 0))

-- L_shl(s, 3), rounded
abbrev pub residual_at : List ℤ → List ℤ → ℕ → ℤ
residual_at a x p = round (l_shl (residual_sum a x p) (pos 3))

-- of the forty inputs after the first ten
unfoldable pub residual : List ℤ → List ℤ → List ℤ
residual a x = tab (λ (n : ℕ). residual_at a x (n + 10)) 40
