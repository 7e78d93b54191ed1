-- `replay::run` keeps every bound: the records counted are no more than the turns, and those that differ no more than they.
use Rattle.std.proofs.Common.{pos, ◌≤◌}
use Rattle.std.specs.Prelude.{◌≤ℤ◌}
use Rattle.replay.proofs.run.Given as goal

abbrev pub invariant-loop : goal.invariant-loop
invariant-loop g l = (pos l.counts.records ≤ℤ l.counter) × (l.counts.different ≤ l.counts.records)
