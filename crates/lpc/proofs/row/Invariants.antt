-- `row` meets its contract: after k turns coefficients 0 to k and the last k are those of the row.
use Rattle.std.proofs.Common.{◌+◌, ◌-◌, ◌≤◌}
use Rattle.lpc.specs.Rows.{row}
use Rattle.lists.proofs.Ends.{Ends}
use Rattle.lpc.proofs.row.Given as goal

abbrev pub invariant-loop-k : goal.invariant-loop-k
invariant-loop-k l = (l.k ≤ 5) × Ends 11 (row l.f l.g) l.r (l.k + 1) (11 - l.k)

abbrev pub decreases-loop-k : goal.decreases-loop-k
decreases-loop-k l = 5 - l.k
