-- `shift_report::step` meets its contract where there is no whole sheet: nothing is counted.
use Rattle.std.proofs.Common.{arith, rules, [], ◌≡◌, length, ap}
use Rattle.shift_report.specs.Steps.{sheets_counted}
use Rattle.shift_report.proofs.Bounds.{bounded_zeros}
use Rattle.shift_report.proofs.Plus.{counts}
use Rattle.shift_report.proofs.Steps.{step_none}
use Rattle.shift_report.proofs.step.Goals as goal

pub returns-in-None-clause-step : goal.returns-in-None-clause-step
returns-in-None-clause-step c =
    let short : ¬ (length c.args.bytes.now ≡ 364) = search rules in
    rw c.zeros.ensures (step_none c.args.state c.args.bytes.now short)

pub returns-in-None-clause-bounded : goal.returns-in-None-clause-bounded
returns-in-None-clause-bounded c = rw c.zeros.ensures bounded_zeros

pub returns-in-None-clause-counted : goal.returns-in-None-clause-counted
returns-in-None-clause-counted c = omega (arith, ap sheets_counted c.zeros.ensures, counts [])
