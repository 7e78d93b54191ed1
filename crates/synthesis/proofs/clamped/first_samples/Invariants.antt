-- `synthesis::first_samples` meets its contract: n samples are fed, and zeros stand after them.
use Rattle.synthesis.specs.Synthesis.{sample}
use Rattle.synthesis.proofs.Passes.{Feeding}
use Rattle.synthesis.proofs.clamped.first_samples.Given as goal

abbrev pub invariant-loop-n : goal.invariant-loop-n
invariant-loop-n l = Feeding (sample 10 l.fn.coefficients) l.fn.excitation l.fn.history l.buf l.n
