-- Squares of 16-bit numbers: how large they are.
use Rattle.std.proofs.Common.{ℕ, suc, ◌*◌, ◌^◌, ◌≤◌, List, [], ◌∷◌, mul-le-mul, arith, ℤ, length, w16, SFits}
use lib.Signed.{nat_abs-le}
use Rattle.lists.specs.Lists.{at}
use Rattle.shift_report.specs.Totals.{square, square_sum}

pub square_most : (x : ℤ) → SFits w16 x → square x ≤ 2 ^ 30
square_most x h = mul-le-mul (nat_abs-le x h.sfits) (nat_abs-le x h.sfits)

pub squares_most : (xs : List ℤ) → ((i : ℕ) → SFits w16 (at xs i)) → square_sum xs ≤ 2 ^ 30 * length xs
unfolding square_sum
squares_most [] f = omega arith
squares_most (x ∷ xs) f = omega (arith, square_most x (f 0), squares_most xs (λ i. f (suc i)))
