-- `rounded_coefficient` meets its contract: the low 16 bits of the shifted sum.
use Rattle.std.proofs.Common.{ap, ◌∙◌, ℤ, pos, w16, w32, to_z-of_z}
use Rattle.lists.proofs.Signed.{got}
use Rattle.basicop.specs.Ops.{l_shr_r, extract_l}
use Rattle.lpc.proofs.rounded_coefficient.Goals as goal

pub returns : goal.returns
returns c =
    let shifted = got w32 c.l_shr_r.type_inv (c.l_shr_r.ensures ∙ ap (λ (z : ℤ). l_shr_r z (pos 13)) (to_z-of_z c.ranges.value)) in
    got w16 c.extract_l.type_inv (c.extract_l.ensures ∙ ap extract_l shifted)
