-- What was printed, and what the rounds that are left print of the rest, is what all rounds print of the whole.
use Rattle.std.proofs.Common.{◌-◌, option_map}
use Rattle.bench_output.specs.Steps.{carried}
use Rattle.bench_output.proofs.Printed.{Printed}
use Rattle.bench_output.proofs.serving.run.Given as goal

abbrev pub invariant-loop-number : goal.invariant-loop-number
invariant-loop-number g l =
    Printed (g.R.Read.remaining l.fn.input) (g.R.Read.remaining l.input) (g.W.Write.contents l.fn.output) (g.W.Write.contents l.output)
    18446744073709551615 (carried 1 l.fn.first) (18446744073709551616 - l.number) (option_map (carried l.number) l.next)
