-- `synthesis::doubled` meets its contract: it tests twice the product.
use Rattle.std.proofs.Common.{pos, ◌*ℤ◌, w32, to_z-of_z}
use Rattle.std.proofs.Math.IntN.{*ℤ_comm}
use Rattle.lists.proofs.Signed.{got}
use Rattle.synthesis.proofs.whole.doubled.Goals as goal

pub returns : goal.returns
returns c =
    let p = c.product in
    let a = c.args.a in
    let y = c.args.y in
    rw (*ℤ_comm (pos 2) (a *ℤ y)) (rw (got w32 {z = p.result} p.type_inv p.ensures.0, to_z-of_z c.ranges.a, to_z-of_z c.ranges.y) at c.checked_mul.ensures)
