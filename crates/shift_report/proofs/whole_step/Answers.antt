-- `shift_report::whole_step` meets its contract: the totals of the sheet's call, and the state that it gives back.
use Rattle.std.proofs.Common.{rules}
use Rattle.shift_report.proofs.Counted.{call_counted}
use Rattle.shift_report.proofs.whole_step.Goals as goal

pub returns-clause-step : goal.returns-clause-step
returns-clause-step c = call_counted _ _ _ _ _ (search rules) c.decode_bytes.ensures c.count_call.ensures.call
