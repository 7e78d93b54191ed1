-- The theorems of proofs/Promised.antt.
use Rattle.applied.proofs.Promised.{frame_accepted, index_accepted, erased_accepted}
use Rattle.applied.proofs.frames.accepted_calls.Goals as goal

pub returns : goal.returns
returns c = record { frame = frame_accepted; index = index_accepted; erased = erased_accepted }
