-- `Row::tested` meets its contract: after k taps the sum is that of k taps, and no number on the way lies outside.
use Rattle.std.proofs.Common.{length}
use Rattle.synthesis.specs.Inner.{IsSum}
use Rattle.synthesis.proofs.row.Row.tested.Given as goal

abbrev pub invariant-loop-c : goal.invariant-loop-c
invariant-loop-c l = IsSum l.fn.self.coefficients l.fn.x l.fn.y (length l.yielded) l.s
