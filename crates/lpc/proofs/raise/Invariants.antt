-- `raise` meets its contract: coefficients 0 and 1 first, then its loop fills the rest.
use Rattle.std.proofs.Common.{◌+◌, ◌-◌, ◌≤◌}
use Rattle.lists.proofs.Fill.{Filled}
use Rattle.lpc.proofs.Polynomials.{step}
use Rattle.lpc.proofs.raise.Given as goal

abbrev pub invariant-loop-j : goal.invariant-loop-j
invariant-loop-j l = (2 ≤ l.j) × ((l.j ≤ l.degree + 1) × Filled (l.degree + 1) 6 (step l.e l.root.0 (l.degree + 1)) l.r l.j)

abbrev pub decreases-loop-j : goal.decreases-loop-j
decreases-loop-j l = l.j-end - l.j
