-- The sums are those of what the rounds so far made, of no more sheets than were read, and the rounds that are left make the rest.
use Rattle.std.proofs.Common.{◌-◌, ◌*◌}
use Rattle.shift_report.specs.Serving.{TakesAtMost}
use Rattle.shift_report.proofs.Running.{Running}
use Rattle.shift_report.proofs.serving.run.Given as goal

abbrev pub invariant-loop : goal.invariant-loop
invariant-loop g l =
    record {
      running : Running (g.R.Read.remaining l.fn.input) (g.R.Read.remaining l.input) l.fn.first l.totals l.counter (65535 - l.counter) l.next;
      taken : TakesAtMost (g.R.Read.remaining l.fn.input) (g.R.Read.remaining l.input) (364 * l.counter);
    }
