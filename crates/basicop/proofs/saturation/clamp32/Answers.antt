-- `clamp32` meets its contract: the ends of an i32's range are the definition's.
use Rattle.std.proofs.Common.{w32, w64}
use Rattle.basicop.proofs.Clamp.{held}
use Rattle.basicop.proofs.saturation.clamp32.Goals as goal

pub returns : goal.returns
returns c = held w32 w64 _ c.ranges.x tt c.clamp.ensures.value
