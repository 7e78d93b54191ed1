-- `shift_report::zeros` meets its contract: every total of no call is 0.
use Rattle.shift_report.proofs.Counted.{none_counted}
use Rattle.shift_report.proofs.sums.zeros.Goals as goal

pub returns : goal.returns
returns c =
    let (accepted, (refused, (retried, (squares, peaks)))) = c.default.ensures in
    none_counted c.default.result accepted refused retried squares peaks
