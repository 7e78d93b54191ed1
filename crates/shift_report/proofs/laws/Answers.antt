-- `shift_report::laws` ensures the theorems of specs/Report.antt and specs/Steps.antt.
use Rattle.shift_report.proofs.Steps.{step_totals, steps_report}
use Rattle.shift_report.proofs.Unread.{unread as unread_lem}
use Rattle.shift_report.proofs.Means.{mean_floor}
use Rattle.shift_report.proofs.Widths.{totals_bounded, totals_within}
use Rattle.shift_report.proofs.laws.Goals as goal

pub returns : goal.returns
returns c =
    record {
      step = step_totals;
      report = steps_report;
      unread = unread_lem;
      mean = mean_floor;
      bounded = totals_bounded;
      within = totals_within;
    }
