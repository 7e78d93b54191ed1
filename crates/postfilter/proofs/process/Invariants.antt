-- `postfilter::process` meets its contract: after k subframes the frame's first samples and the memory are those of k steps.
use Rattle.postfilter.proofs.Frames.{Framing}
use Rattle.postfilter.proofs.process.Given as goal

abbrev pub invariant-loop-k : goal.invariant-loop-k
invariant-loop-k l = Framing l.fn.memory l.fn.rows l.fn.samples l.out l.carried l.k
