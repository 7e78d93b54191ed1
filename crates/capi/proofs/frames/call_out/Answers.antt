-- `capi::call_out`: an accepted call was lent all the bytes of its samples.
use Rattle.std.proofs.Common.{rules, arith, sym, ◌∙◌}
use Rattle.kinds.specs.Checked.{lent_kind}
use Rattle.capi.proofs.Buffers.{room_all}
use Rattle.capi.proofs.frames.call_out.Goals as goal

pub put-requires : goal.put-requires
put-requires c =
    let a = c.args in
    let accepted = sym c.is_ok-accepted.ensures.value ∙ c.if-accepted.true in
    let all = room_all (lent_kind a.kind) a.energies.energies a.sheet.now a.state _ a.out.now (search rules) c.call-answer.ensures accepted in
    omega (arith, all.0, all.1, c.call-answer.auto.out)
