-- `shift_report::report_line` meets its contract: its fields, one behind another, are the definition's.
use Rattle.shift_report.proofs.Lines.{report_laid}
use Rattle.shift_report.proofs.line.report_line.Goals as goal

pub returns : goal.returns
returns c =
    report_laid _ _ _ _ _ _ c.args.totals (rw c.new-line.ensures at c.push_field.ensures.line) c.push_field-2.ensures.line c.push_field-3.ensures.line
    c.push_field-4.ensures.line c.push_mean.ensures.line c.push.ensures
