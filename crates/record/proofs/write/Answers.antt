-- `write` meets its contract: the record is written where room and state are accepted.
use Rattle.std.proofs.Common.{refl, ap, ◌∙◌}
use Rattle.std.specs.Prelude.{Err}
use Rattle.std.proofs.lemmas.Result.{err_from_is_err_and}
use Rattle.record.proofs.Writer.{no_room, room_there, write_accepted, write_refused}
use Rattle.record.proofs.write.Goals as goal

pub returns-in_default : goal.returns-in_default
returns-in_default c = let a = c.args in write_refused a.state a.out.now (no_room a.state a.out.now c.in_default.ensures.cases) refl refl

pub returns-in_err-check_state : goal.returns-in_err-check_state
returns-in_err-check_state c =
    let a = c.args in
    let w = c.in-Some.ensures.cases in
    let p = err_from_is_err_and c.from_residual.result c.from_residual.ensures.1 in
    write_refused a.state a.out.now (c.in_err-check_state.ensures.value ∙ room_there a.state a.out.now w.long) (p.1 ∙ ap Err p.2) w.same

pub returns : goal.returns
returns c =
    let a = c.args in
    write_accepted a.state a.out.now (c.in_ok-check_state.ensures.value ∙ room_there a.state a.out.now c.in-Some.ensures.cases.long) c.write_record.ensures
