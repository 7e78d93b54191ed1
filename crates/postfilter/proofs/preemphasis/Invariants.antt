-- `postfilter::preemphasis` meets its contract: the first i are emphasised, and `previous` is the residual before the next.
use Rattle.std.proofs.Common.{◌≡◌, ◌∷◌}
use Rattle.lists.specs.Lists.{at}
use Rattle.lists.proofs.Fill.{Filled, Untouched}
use Rattle.postfilter.specs.Preemphasis.{preemphasised}
use Rattle.postfilter.proofs.preemphasis.Given as goal

abbrev pub invariant-loop-r : goal.invariant-loop-r
invariant-loop-r l =
    Filled 40 40 (preemphasised l.tilt.0 l.fn.carried l.fn.residual) l.r-items l.r-index
    × (Untouched l.fn.residual l.r-items l.r-index × (l.previous ≡ at (l.fn.carried ∷ l.fn.residual) l.r-index))
