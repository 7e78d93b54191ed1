-- `shift_report::read_report` meets its contract: the record's line where it is refused, and else that of the totals of the rounds after it.
use Rattle.std.proofs.Common.{arith}
use Rattle.shift_report.proofs.Running.{whole_more, whole_alone}
use Rattle.shift_report.proofs.Taken.{taken_none, taken_more, taken_both}
use Rattle.shift_report.proofs.serving.read_report.Goals as goal

pub returns-in-Some-clause-line : goal.returns-in-Some-clause-line
returns-in-Some-clause-line g c =
    let (came, took, step) = c.in_ok-opening.ensures.step in
    whole_more came _ _ _ _ _ _ took (rw c.in-Some.is at step) c.in_ok-run.ensures.totals c.report_line.ensures

pub returns-in-Some-clause-limit : goal.returns-in-Some-clause-limit
returns-in-Some-clause-limit g c =
    let (came, took, step) = c.in_ok-opening.ensures.step in
    taken_both _ _ _ 402 23854740 _ (taken_more _ _ _ 0 402 402 came (taken_none _) took (omega arith)) c.in_ok-run.ensures.limit (omega arith)

pub returns-clause-line : goal.returns-clause-line
returns-clause-line g c =
    let (came, took, step) = c.in_ok-opening.ensures.step in
    whole_alone came _ _ _ took (rw c.in_default.is at step)

pub returns-clause-limit : goal.returns-clause-limit
returns-clause-limit g c =
    let (came, took, step) = c.in_ok-opening.ensures.step in
    taken_more _ _ _ 0 402 _ came (taken_none _) took (omega arith)
