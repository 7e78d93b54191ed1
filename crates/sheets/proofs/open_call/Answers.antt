-- `sheets::open_call` meets its contract: an accepted record opens the run, and a refused one is told by its refusal's number.
use Rattle.std.proofs.Common.{sym, ap, ◌∙◌}
use Rattle.outcome.specs.Outcome.{number_of, is_accepted}
use Rattle.outcome.proofs.Variants.{never_accepted}
use Rattle.sheets.proofs.Opening.{opening_accepted, opening_refused}
use Rattle.sheets.proofs.open_call.Goals as goal

pub returns-in-Ok : goal.returns-in-Ok
returns-in-Ok c = rw c.new.ensures (opening_accepted c.args.bytes.now c.answer_of-outcome.result c.answer_of-outcome.ensures (ap is_accepted c.in-Ok.is))

pub returns-in-Err : goal.returns-in-Err
returns-in-Err c =
    let e = c.in-Err.is in
    opening_refused c.args.bytes.now c.answer_of-outcome.result c.answer_of-outcome.ensures _ c.number.result
    (ap is_accepted e ∙ never_accepted c.in-Err.refusal) (c.number.ensures ∙ sym (ap number_of e)) c.state_line.ensures
