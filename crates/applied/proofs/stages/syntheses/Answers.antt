-- The theorems of proofs/Synthesis.antt.
use Rattle.applied.proofs.Synthesis.{agree_applied, retry_applied}
use Rattle.applied.proofs.stages.syntheses.Goals as goal

pub returns : goal.returns
returns c = record { agree = agree_applied; retry = retry_applied }
