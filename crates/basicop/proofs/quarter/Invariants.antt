-- `basicop::quarter` meets its contract: what is quartered, and what is left, quartered, is all, quartered.
use Rattle.std.proofs.Common.{◌≡◌, ◌++◌, take, drop}
use Rattle.basicop.specs.Ops.{quartered}
use Rattle.basicop.proofs.quarter.Given as goal

abbrev pub invariant-loop-sample : goal.invariant-loop-sample
invariant-loop-sample l = take l.sample-index l.sample-items ++ quartered (drop l.sample-index l.sample-items) ≡ quartered l.fn.samples
