-- `process` meets its contract: what `control_gain` gives goes into the samples and into what was lent.
use Rattle.energy.proofs.control.process.Goals as goal

pub returns : goal.returns
returns c = c.control_gain-made.ensures
