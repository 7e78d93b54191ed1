-- The call of its kind.
use Rattle.mr74.specs.Frame.{erased_call}
use Rattle.mr74.specs.Inner.{kind_call}
use Rattle.mr74.proofs.frame_erased.Goals as goal

pub returns : goal.returns
unfolding erased_call kind_call
returns c = c.call.ensures
