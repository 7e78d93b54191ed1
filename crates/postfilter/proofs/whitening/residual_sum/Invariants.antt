-- `postfilter::residual_sum` meets its contract: after j steps the sum is that of j steps, and by its size none of them clamps of a light row.
use Rattle.std.proofs.Common.{length}
use Rattle.postfilter.proofs.Residuals.{Summed}
use Rattle.postfilter.proofs.whitening.residual_sum.Given as goal

abbrev pub invariant-loop-c : goal.invariant-loop-c
invariant-loop-c l = Summed l.fn.row.coefficients l.fn.x 10 l.light l.s (length l.yielded)
