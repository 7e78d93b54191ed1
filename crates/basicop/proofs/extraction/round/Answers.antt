-- `round` meets its contract: the high word of the sum.
use Rattle.std.proofs.Common.{ap, ◌∙◌, ℤ, pos, w16, w32, to_z-of_z}
use Rattle.lists.proofs.Signed.{got}
use Rattle.basicop.specs.Ops.{l_add, extract_h}
use Rattle.basicop.proofs.extraction.round.Goals as goal

pub returns : goal.returns
returns c =
    let sum = got w32 c.l_add.type_inv (c.l_add.ensures ∙ ap (λ (x : ℤ). l_add x (pos 32768)) (to_z-of_z c.ranges.x)) in
    got w16 c.extract_h.type_inv (c.extract_h.ensures ∙ ap extract_h sum)
