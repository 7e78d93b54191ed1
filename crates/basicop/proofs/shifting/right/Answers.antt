-- `right` meets its contract: a count above 31 leaves the sign as 31 does.
use Rattle.std.proofs.Common.{min, w32, to_z-of_z}
use Rattle.basicop.specs.Ops.{asr}
use Rattle.basicop.proofs.Shift.{asr_min, asr_same}
use Rattle.basicop.proofs.shifting.right.Goals as goal

pub returns : goal.returns
unfolding asr
returns c =
    let a = c.args in
    rw (c.min.ensures, to_z-of_z c.ranges.x, to_z-of_z (asr_same w32 a.x (min a.n 31) c.ranges.x)) (asr_min w32 a.x a.n c.ranges.x)
