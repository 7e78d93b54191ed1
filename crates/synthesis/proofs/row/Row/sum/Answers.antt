-- `Row::sum` meets its contract: of a light row no number lies outside.
use Rattle.std.proofs.Common.{w32, to_z-of_z}
use Rattle.lists.proofs.Signed.{got}
use Rattle.synthesis.proofs.row.Row.sum.Goals as goal

pub returns-then-self : goal.returns-then-self
returns-then-self c =
    let r = rw (to_z-of_z c.ranges.x) at c.untested.ensures in
    (r.inside, got w32 c.untested.type_inv r.is)

pub returns : goal.returns
returns c = rw (to_z-of_z c.ranges.x) at c.tested.ensures
