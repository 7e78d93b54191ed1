-- `synthesis::product` meets its contract: the product fits 32 bits, and y is at most 32768 in size.
use Rattle.std.proofs.Common.{◌≡◌, refl, le_refl, nat_abs, w32, to_z, of_z, to_z-of_z}
use Rattle.std.specs.Int.Signed.{nat_abs-le}
use Rattle.basicop.proofs.Range.{mul_bound, sfits_mul}
use Rattle.lists.proofs.Signed.{got}
use Rattle.synthesis.proofs.whole.product.Goals as goal
use Rattle.synthesis.proofs.whole.product.Goals.{After-from-2}

wide_a : (c : After-from-2) → to_z w32 (of_z w32 c.from.result) ≡ c.args.a
wide_a c = got w32 c.from.type_inv (rw (to_z-of_z c.ranges.a) at c.from.ensures)

wide_y : (c : After-from-2) → to_z w32 (of_z w32 c.from-2.result) ≡ c.args.y
wide_y c = got w32 c.from-2.type_inv (rw (to_z-of_z c.ranges.y) at c.from-2.ensures)

pub overflow_mul-result : goal.overflow_mul-result
overflow_mul-result c = rw (wide_a c, wide_y c) (sfits_mul w32 c.args.a c.args.y 32768 32768 c.ranges.a.sfits c.ranges.y.sfits tt)

pub returns : goal.returns
returns c =
    rw (to_z-of_z (overflow_mul-result c), wide_a c, wide_y c) (refl, mul_bound c.args.a c.args.y (le_refl (nat_abs c.args.a)) (nat_abs-le c.args.y c.ranges.y.sfits))
