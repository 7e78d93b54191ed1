-- `synthesis::preview` meets its contract: n samples are fed, and none of their numbers lies outside.
use Rattle.synthesis.proofs.Passes.{Passing}
use Rattle.synthesis.proofs.whole.preview.Given as goal

abbrev pub invariant-loop-n : goal.invariant-loop-n
invariant-loop-n l = Passing l.fn.coefficients l.fn.excitation l.fn.history l.buf l.n
