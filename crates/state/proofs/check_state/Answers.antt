-- `check_state` meets its contract: group after group, the first that refuses decides.
use Rattle.std.proofs.Common.{◌++◌, ◌∙◌}
use Rattle.outcome.proofs.Checks.{refused_here, accepted_here}
use Rattle.state.specs.State.{signal_checks, mark_checks, lag_checks}
use Rattle.state.proofs.Checks.{accepted_where}
use Rattle.state.proofs.check_state.Goals as goal

pub returns-in_err-check_signal-clause-value : goal.returns-in_err-check_signal-clause-value
returns-in_err-check_signal-clause-value c =
    let s = c.args.state in
    refused_here (signal_checks s) (mark_checks s.concealment ++ lag_checks s.concealment) c.in_err-check_signal.ensures c.from_residual.ensures.1

pub returns-in_err-check_mark-clause-value : goal.returns-in_err-check_mark-clause-value
returns-in_err-check_mark-clause-value c =
    let s = c.args.state in
    refused_here (mark_checks s.concealment) (lag_checks s.concealment) c.in_err-check_mark.ensures c.from_residual-in_err-check_mark.ensures.1
    ∙ accepted_here (signal_checks s) (mark_checks s.concealment ++ lag_checks s.concealment) c.in_ok-check_signal.ensures

pub returns-clause-value : goal.returns-clause-value
returns-clause-value c =
    let s = c.args.state in
    c.check_lag.ensures
    ∙ accepted_here (mark_checks s.concealment) (lag_checks s.concealment) c.in_ok-check_mark.ensures
    ∙ accepted_here (signal_checks s) (mark_checks s.concealment ++ lag_checks s.concealment) c.in_ok-check_signal.ensures

-- and by its value it is accepted exactly where the state is in range
pub returns-in_err-check_signal-clause-accepted : goal.returns-in_err-check_signal-clause-accepted
returns-in_err-check_signal-clause-accepted c = accepted_where c.args.state (returns-in_err-check_signal-clause-value c)

pub returns-in_err-check_mark-clause-accepted : goal.returns-in_err-check_mark-clause-accepted
returns-in_err-check_mark-clause-accepted c = accepted_where c.args.state (returns-in_err-check_mark-clause-value c)

pub returns-clause-accepted : goal.returns-clause-accepted
returns-clause-accepted c = accepted_where c.args.state (returns-clause-value c)
