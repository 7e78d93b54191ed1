-- `Row::clamped_sum` meets its contract: of a light row the whole sum is the clamped one.
use Rattle.std.proofs.Common.{w32, to_z-of_z}
use Rattle.lists.proofs.Signed.{got}
use Rattle.synthesis.proofs.Taps.{is_sum_acc}
use Rattle.synthesis.proofs.row.Row.clamped_sum.Goals as goal

pub untested-requires : goal.untested-requires
untested-requires c = c.if-light.true

pub returns-then-light : goal.returns-then-light
returns-then-light c = got w32 c.untested.type_inv (is_sum_acc (rw (to_z-of_z c.ranges.x) at c.untested.ensures))

pub returns : goal.returns
returns c = rw (to_z-of_z c.ranges.x) at (got w32 c.accumulated.type_inv c.accumulated.ensures)
