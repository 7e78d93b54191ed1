-- The theorems of proofs/Examples.antt and proofs/Divisions.antt.
use Rattle.applied.proofs.Examples.{example, refused_trace_lem}
use Rattle.applied.proofs.Divisions.{divisions_applied}
use Rattle.applied.proofs.frames.computed_call.Goals as goal

pub returns : goal.returns
returns c = record { example = example; refused = refused_trace_lem; divisions = divisions_applied }
