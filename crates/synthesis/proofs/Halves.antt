-- Whole numbers of the first pass and the range of 32 bits; a light row's at half their size.
use Rattle.std.proofs.Common.{◌≡◌, arith, ◌≤◌, ℤ, pos, nat_abs, ◌-ℤ◌, ◌*ℤ◌, w32, SFits}
use borrow.Author.Differences.{same_in, product_is}
use Rattle.basicop.proofs.Ints.{sfits_by, sub_ℤ_is}
use Rattle.basicop.proofs.Range.{nat_abs_is}

pub double_sub : (s p : ℤ) → pos 2 *ℤ (s -ℤ p) ≡ pos 2 *ℤ s -ℤ pos 2 *ℤ p
double_sub s p = same_in _ _ (omega (arith, product_is (pos 2) (s -ℤ p), sub_ℤ_is s p, sub_ℤ_is (pos 2 *ℤ s) (pos 2 *ℤ p), product_is (pos 2) s, product_is (pos 2) p))

pub small_twice : (z : ℤ) → nat_abs z ≤ 1073709056 → SFits w32 (pos 2 *ℤ z)
small_twice z h = sfits_by (omega (arith, nat_abs_is z, product_is (pos 2) z))
