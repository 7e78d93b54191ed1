-- `adaptive::sample` meets its contract: after i turns the sum is that of i turns, and by its size no step clamps where `plain` says so.
use Rattle.std.proofs.Common.{◌≤◌, ◌-◌}
use Rattle.adaptive.specs.Inner.{left_of, right_of}
use Rattle.adaptive.proofs.Sums.{Summed}
use Rattle.adaptive.proofs.sample.Given as goal

abbrev pub invariant-loop-i : goal.invariant-loop-i
invariant-loop-i l = (l.i ≤ 10) × Summed l.x l.first (left_of l.taps) (right_of l.taps) l.plain l.sum l.i

abbrev pub decreases-loop-i : goal.decreases-loop-i
decreases-loop-i l = 10 - l.i
