-- What was interrupted gave nothing: known bytes are left as they were.
use Rattle.std.specs.Io.KnownBytes.{Keeps}
use Rattle.sheets.proofs.read_some.Given as goal

abbrev pub invariant-loop : goal.invariant-loop
invariant-loop g l = Keeps (g.R.Read.remaining l.fn.input) (g.R.Read.remaining l.input)
