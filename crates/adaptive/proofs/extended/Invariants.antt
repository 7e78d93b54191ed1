-- `adaptive::extended` meets its contract: n samples are made, and `plain` is the test of all that stands.
use Rattle.std.proofs.Common.{◌+◌, ◌-◌, ◌≤◌, pos}
use Rattle.pitch.specs.Lag.{lag_of}
use Rattle.lists.proofs.Grow.{Grown}
use Rattle.adaptive.specs.Predict.{phase, sample_at}
use Rattle.adaptive.proofs.Tested.{Tested}
use Rattle.adaptive.proofs.extended.Given as goal

abbrev pub invariant-loop-n : goal.invariant-loop-n
invariant-loop-n l = (l.n ≤ 40) × (Grown (sample_at (pos l.start) (phase (lag_of l.fn.lag))) l.fn.history 154 194 l.buffer l.n × Tested l.buffer (154 + l.n) l.plain)

abbrev pub decreases-loop-n : goal.decreases-loop-n
decreases-loop-n l = 40 - l.n
