-- The theorems of proofs/Starred.antt.
use Rattle.applied.proofs.Starred.{starred_hold, starred_applied}
use Rattle.applied.proofs.stages.starred_values.Goals as goal

pub returns : goal.returns
returns c = record { hold = starred_hold; applied = starred_applied }
