-- `adaptive::all_taps` meets its contract: the twenty taps of each phase, joined.
use Rattle.adaptive.specs.Inner.{all_taps}
use Rattle.adaptive.proofs.phases.all_taps.Goals as goal

pub returns : goal.returns
unfolding all_taps
returns c = cc
