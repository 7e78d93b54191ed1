-- `bench_output::answer_line` meets its contract, where the call is accepted and where it is refused.
use Rattle.bench_output.proofs.Answers.{line_accepted, line_refused}
use Rattle.bench_output.proofs.answer_line.Goals as goal

pub returns-in-Ok : goal.returns-in-Ok
returns-in-Ok c = line_accepted c.args.number c.args.answer c.args.samples _ _ _ c.in-Ok.is c.flags.ensures c.peak.ensures c.frame_line.ensures

pub returns-in-Err : goal.returns-in-Err
returns-in-Err c = line_refused c.args.number c.args.answer c.args.samples _ _ _ c.in-Err.refusal c.in-Err.is c.number.ensures c.place.ensures c.refused_line.ensures
