-- `smooth` meets its contract: the gain before by 29491, and the goal.
use Rattle.std.proofs.Common.{ap, ap₂, ◌∙◌, rules, ℤ, pos, w16, SFits, to_z-of_z}
use Rattle.lists.proofs.Signed.{got}
use Rattle.basicop.specs.Ops.{add, mult}
use Rattle.energy.proofs.control.smooth.Goals as goal

pub returns : goal.returns
returns c =
    let gain : SFits w16 c.args.gain.0 = search rules in
    let goal : SFits w16 c.args.goal.0 = search rules in
    let part = got w16 c.mult.type_inv (c.mult.ensures ∙ ap (λ (z : ℤ). mult z (pos 29491)) (to_z-of_z gain)) in
    got w16 c.add.type_inv (c.add.ensures ∙ ap₂ add part (to_z-of_z goal))
