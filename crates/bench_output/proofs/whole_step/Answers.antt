-- `bench_output::whole_step` meets its contract: the line of the sheet's call, the number after its own, and the state that the call gives back.
use Rattle.std.proofs.Common.{rules}
use Rattle.bench_output.proofs.Answers.{step_whole}
use Rattle.bench_output.proofs.whole_step.Goals as goal

pub returns : goal.returns
returns c = step_whole c.args.carried c.args.sheet.now _ _ (search rules) c.decode_bytes.ensures c.answer_line.ensures
