-- `clamp16` meets its contract: the ends of an i16's range are the definition's.
use Rattle.std.proofs.Common.{w16, w32}
use Rattle.basicop.proofs.Clamp.{held}
use Rattle.basicop.proofs.saturation.clamp16.Goals as goal

pub returns : goal.returns
returns c = held w16 w32 _ c.ranges.x tt c.clamp.ensures.value
