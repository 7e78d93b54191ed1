-- `basicop::mac` meets its contract: a plain product and sum are those of L_mac where no step of it clamps.
use Rattle.std.proofs.Common.{◌*ℤ◌, w32, SFits, to_z-of_z}
use Rattle.basicop.proofs.Calls.{rules_ℤ}
use Rattle.basicop.proofs.Unclamped.{unclamped_is}
use Rattle.basicop.proofs.mac.Goals as goal

pub overflow_add-result : goal.overflow_add-result
overflow_add-result c =
    let f = c.ranges in
    let u = c.requires c.if-plain.true in
    let a : SFits w32 c.args.a = search rules_ℤ in
    let b : SFits w32 c.args.b = search rules_ℤ in
    let p : SFits w32 (c.args.a *ℤ c.args.b) = search rules_ℤ in
    rw (to_z-of_z f.s, to_z-of_z f.a, to_z-of_z f.b, to_z-of_z a, to_z-of_z b, to_z-of_z p, to_z-of_z u.product) u.sum

pub returns-then-plain : goal.returns-then-plain
returns-then-plain c =
    let f = c.ranges in
    let u = c.requires c.if-plain.true in
    let a : SFits w32 c.args.a = search rules_ℤ in
    let b : SFits w32 c.args.b = search rules_ℤ in
    let p : SFits w32 (c.args.a *ℤ c.args.b) = search rules_ℤ in
    rw (to_z-of_z f.s, to_z-of_z f.a, to_z-of_z f.b, to_z-of_z a, to_z-of_z b, to_z-of_z p, to_z-of_z u.product, to_z-of_z u.sum) (unclamped_is u)
