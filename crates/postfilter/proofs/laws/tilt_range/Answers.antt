-- `tilt_range` meets its contract: the law, as it stands.
use Rattle.postfilter.proofs.Tilts.{tilted}
use Rattle.postfilter.proofs.laws.tilt_range.Goals as goal

pub returns : goal.returns
returns c = tilted
