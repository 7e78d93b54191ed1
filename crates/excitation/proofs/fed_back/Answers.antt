-- `excitation::fed_back` meets its contract: two products, their sum, doubled, rounded.
use Rattle.std.proofs.Common.{ap, ◌∙◌, rules, ℤ, pos, w16, w32, SFits, to_z-of_z}
use Rattle.lists.proofs.Signed.{got}
use Rattle.basicop.specs.Ops.{l_shl, round}
use Rattle.excitation.proofs.fed_back.Goals as goal

pub returns : goal.returns
returns c =
    let a = c.args in
    let pitch : SFits w16 a.pitch.0 = search rules in
    let code : SFits w16 a.code.0 = search rules in
    let product = got w32 c.l_mult.type_inv (rw (to_z-of_z c.ranges.adaptive, to_z-of_z pitch) at c.l_mult.ensures) in
    let sum = got w32 c.l_mac-sum.type_inv (rw (product, to_z-of_z c.ranges.innovation, to_z-of_z code) at c.l_mac-sum.ensures) in
    let doubled = got w32 c.l_shl.type_inv (c.l_shl.ensures ∙ ap (λ (z : ℤ). l_shl z (pos 1)) sum) in
    got w16 c.round.type_inv (c.round.ensures ∙ ap round doubled)
