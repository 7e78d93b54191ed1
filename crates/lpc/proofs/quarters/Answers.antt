-- `quarters` meets its contract: a quarter of the one, and the other less its quarter.
use Rattle.std.proofs.Common.{ap, ap₂, ◌∙◌, ℤ, w16, to_z-of_z}
use Rattle.lists.proofs.Signed.{got}
use Rattle.basicop.specs.Ops.{asr, add, sub}
use Rattle.lpc.proofs.quarters.Goals as goal

pub returns : goal.returns
returns c =
    let quarter = λ (z : ℤ). asr z 2 in
    let three = to_z-of_z c.ranges.three in
    let part = got w16 c.shr.type_inv (c.shr.ensures ∙ ap quarter (to_z-of_z c.ranges.one)) in
    let rest = got w16 c.sub.type_inv (c.sub.ensures ∙ ap₂ sub three (got w16 c.shr-2.type_inv (c.shr-2.ensures ∙ ap quarter three))) in
    got w16 c.add.type_inv (c.add.ensures ∙ ap₂ add part rest)
