-- `mult` meets its contract: the product fits 32 bits, is shifted and clamped once.
use Rattle.std.proofs.Common.{ap, ◌∙◌, ◌*ℤ◌, w16, w32, SFits, to_z-of_z}
use Rattle.lists.proofs.Signed.{got}
use Rattle.basicop.specs.Ops.{clamp, mult, asr}
use Rattle.basicop.proofs.Calls.{rules_ℤ}
use Rattle.basicop.proofs.arithmetic.mult.Goals as goal

pub returns : goal.returns
unfolding mult asr
returns c =
    let a = c.args.a in
    let b = c.args.b in
    let wide_a : SFits w32 a = search rules_ℤ in
    let wide_b : SFits w32 b = search rules_ℤ in
    let product : SFits w32 (a *ℤ b) = search rules_ℤ in
    let shifted : SFits w32 (asr (a *ℤ b) 15) = search rules_ℤ depth 9 in
    got w16 c.clamp16.type_inv (rw (to_z-of_z c.ranges.a, to_z-of_z c.ranges.b, to_z-of_z wide_a, to_z-of_z wide_b, to_z-of_z product) at c.clamp16.ensures ∙ ap (clamp w16) (to_z-of_z shifted))
