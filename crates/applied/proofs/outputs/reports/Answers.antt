-- The theorem of proofs/Report.antt.
use Rattle.applied.proofs.Report.{report_applied}
use Rattle.applied.proofs.outputs.reports.Goals as goal

pub returns : goal.returns
returns c = report_applied
