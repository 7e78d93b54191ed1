-- `postfilter::excitation` meets its contract: preemphasis of the residual, whose last is kept.
use Rattle.std.proofs.Common.{◌∙◌, w16, to_z-of_z}
use Rattle.lists.specs.Lists.{at}
use Rattle.lists.proofs.Signed.{back}
use Rattle.postfilter.proofs.excitation.Goals as goal

pub returns : goal.returns
returns c =
    (rw (to_z-of_z c.ranges.carried, c.residual-whitened.ensures) at c.preemphasis-out.ensures, back w16 {z = at c.residual-whitened.result 39} c.result-1.given ∙ rw c.residual-whitened.ensures)
