-- `left` meets its contract: a count above 31 clamps as 31 does.
use Rattle.std.proofs.Common.{◌∙◌, min, ◌<◌, ◌+◌, ◌^◌, arith, pow_mono, w32, w64, SFits, to_z-of_z}
use Rattle.std.specs.Int.Signed.{mag}
use Rattle.lists.proofs.Signed.{got}
use Rattle.basicop.proofs.Calls.{rules_ℤ}
use Rattle.basicop.proofs.Clamp.{clamp_min}
use Rattle.basicop.proofs.shifting.left.Goals as goal

pub overflow_mul-x : goal.overflow_mul-x
overflow_mul-x c =
    let small : mag c.pow2.result < 2 ^ 31 + 1 = rw c.pow2.ensures (omega (arith, pow_mono {i = min c.args.n 31} {j = 31} (omega arith))) in
    search rules_ℤ depth 9

pub returns : goal.returns
returns c =
    let wide : SFits w64 c.args.x = search rules_ℤ in
    got w32 c.clamp32.type_inv
    (rw (to_z-of_z (overflow_mul-x c.before), to_z-of_z c.ranges.x, to_z-of_z wide, got w64 c.pow2.type_inv c.pow2.ensures) at c.clamp32.ensures ∙ clamp_min w32 c.args.x c.args.n)
