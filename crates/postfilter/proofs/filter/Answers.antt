-- `postfilter::filter` meets its contract: the subframe by its steps.
use Rattle.std.proofs.Common.{◌∙◌, rules, w16}
use Rattle.lists.proofs.Signed.{back}
use Rattle.postfilter.specs.Weight.{numerator, denominator}
use Rattle.postfilter.proofs.Subframes.{filtered_by}
use Rattle.postfilter.proofs.filter.Goals as goal

pub returns : goal.returns
unfolding numerator denominator
returns c =
    let a = c.args in
    let m = a.memory in
    let r = back w16 {z = m.previous_residual} (search rules) in
    let l = back w16 {z = c.excitation-previous_residual.result.last} (search rules) in
    filtered_by m a.coefficients a.samples c.weight-numerator.ensures c.weight-denominator.ensures (c.tilt_of-tilt.ensures ∙ rw c.impulse.ensures) (rw r at c.excitation-previous_residual.ensures.0) (l ∙ c.excitation-previous_residual.ensures.1) c.filter.ensures c.process-scaled.ensures c.newest-input_history.ensures
