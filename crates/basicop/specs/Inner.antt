-- For inner functions: what plain products and sums rest on.
use Rattle.std.specs.Prelude.{ℕ, zero, suc, ◌+◌, ℤ, pos, nat_abs, ◌+ℤ◌, ◌*ℤ◌}
use Rattle.std.specs.Int.{w32}
use Rattle.std.proofs.Common.{SFits}

-- no step of L_mac(s, a, b) clamps
pub record Unclamped (s a b : ℤ) : Type 0 where
  pub product : SFits w32 (pos 2 *ℤ (a *ℤ b))
  pub sum : SFits w32 (s +ℤ pos 2 *ℤ (a *ℤ b))

-- the sizes of the first n numbers: |c 0| + .. + |c (n − 1)|
unfoldable pub sizes : (ℕ → ℤ) → ℕ → ℕ
sizes c zero = 0
sizes c (suc n) = sizes c n + nat_abs (c n)
