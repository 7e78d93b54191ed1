-- `smoothed` meets its contract: its loop fills the samples in place and counts the steps of the gain.
use Rattle.std.proofs.Common.{ℕ}
use Rattle.lists.specs.Lists.{tab}
use Rattle.lists.proofs.Fill.{Filled, Untouched}
use Rattle.lists.proofs.Count.{Iter}
use Rattle.energy.specs.Gain.{smooth}
use Rattle.energy.proofs.control.Controls.{sample_of}
use Rattle.energy.proofs.control.smoothed.Given as goal

abbrev pub invariant-loop-sample : goal.invariant-loop-sample
invariant-loop-sample l =
    Filled 40 40 (tab (sample_of l.goal.0 l.fn.gain.0 l.fn.samples) 40) l.sample-items l.sample-index
    × (Untouched l.fn.samples l.sample-items l.sample-index × Iter (λ (k : ℕ). smooth l.goal.0) l.fn.gain.0 l.previous.0 l.sample-index)
