-- `bench_output::run` meets its contract: a round prints its sheet's line and leaves the rounds after it; there are as many as the numbers have.
use Rattle.std.proofs.Common.{◌-◌, ◌+◌, option_map, arith, ap}
use Rattle.bench_output.specs.Steps.{carried}
use Rattle.bench_output.proofs.Printed.{printed_none, printed_more, printed_last, printed_all}
use Rattle.bench_output.proofs.serving.run.Goals as goal

pub loop-number-init : goal.loop-number-init
loop-number-init g c = printed_none _ _ _ _

pub loop-number-preserved : goal.loop-number-preserved
loop-number-preserved g c =
    let given = ap (option_map (carried c.loop-number.number)) c.in-Some.is in
    printed_more _ _ _ _ _ _ _ _ _ (18446744073709551616 - (c.loop-number.number + 1)) _ _ _ c.loop-number.invariant given c.in_ok-next.ensures (omega arith)

pub returns-in_default : goal.returns-in_default
returns-in_default g c = printed_last _ _ _ _ _ _ _ _ c.loop-number.invariant (ap (option_map (carried c.loop-number.number)) c.in_default.is)

pub returns-in_ok-next : goal.returns-in_ok-next
returns-in_ok-next g c =
    let given = ap (option_map (carried c.loop-number.number)) c.in-Some.is in
    let all = printed_more _ _ _ _ _ _ _ _ _ 0 _ _ _ c.loop-number.invariant given c.in_ok-next.ensures (omega arith) in
    printed_all _ _ _ _ _ _ _ _ all (omega arith)
