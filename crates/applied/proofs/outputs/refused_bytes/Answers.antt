-- The theorems of proofs/Capi.antt and Lengths.antt.
use Rattle.applied.proofs.Capi.{unchanged_applied}
use Rattle.applied.proofs.Lengths.{lengths_applied}
use Rattle.applied.proofs.outputs.refused_bytes.Goals as goal

pub returns : goal.returns
returns c = record { unchanged = unchanged_applied; lengths = lengths_applied }
