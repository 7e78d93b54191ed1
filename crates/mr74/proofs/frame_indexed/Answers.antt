-- The call of its kind.
use Rattle.mr74.specs.Frame.{index_call}
use Rattle.mr74.specs.Inner.{kind_call}
use Rattle.mr74.proofs.frame_indexed.Goals as goal

pub returns : goal.returns
unfolding index_call kind_call
returns c = c.call.ensures
