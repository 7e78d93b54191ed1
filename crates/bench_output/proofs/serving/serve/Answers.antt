-- `bench_output::serve` meets its contract: the record's step, and the rounds after it where it is accepted, print the whole output.
use Rattle.std.proofs.Common.{arith}
use Rattle.bench_output.proofs.Printed.{whole_more, whole_alone}
use Rattle.bench_output.proofs.serving.serve.Goals as goal

pub returns-in_ok-run : goal.returns-in_ok-run
returns-in_ok-run g c =
    let (came, took, step) = c.in_ok-opening.ensures.step in
    whole_more _ _ _ _ _ 18446744073709551615 18446744073709551616 came _ _ (omega arith) took (rw c.in-Some.is at step) c.in_ok-write_line.ensures.ok c.in_ok-run.ensures

pub returns-in_default : goal.returns-in_default
returns-in_default g c =
    let (came, took, step) = c.in_ok-opening.ensures.step in
    whole_alone _ _ _ _ 18446744073709551615 18446744073709551616 came _ (omega arith) took (rw c.in_default.is at step) c.in_ok-write_line.ensures.ok
