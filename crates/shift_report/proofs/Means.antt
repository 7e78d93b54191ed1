-- The mean of numbers by their sum, rounded down: what that says.
use Rattle.std.proofs.Common.{arith}
use Rattle.shift_report.specs.Report.{mean_of, MeanFloor}

pub mean_floor : MeanFloor
unfolding mean_of
mean_floor sum n h = (omega (arith, h), omega (arith, h))
