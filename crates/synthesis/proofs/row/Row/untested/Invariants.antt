-- `Row::untested` meets its contract: after k taps the half is at most 32768 times the weight so far in size, so that no number lies outside.
use Rattle.std.proofs.Common.{length}
use Rattle.synthesis.proofs.Taps.{Light}
use Rattle.synthesis.proofs.row.Row.untested.Given as goal

abbrev pub invariant-loop-c : goal.invariant-loop-c
invariant-loop-c l = Light l.fn.self.coefficients l.fn.x l.fn.y l.half (length l.yielded)
