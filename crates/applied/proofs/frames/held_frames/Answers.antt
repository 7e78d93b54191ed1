-- The theorems of proofs/Held.antt.
use Rattle.applied.proofs.Held.{held_gains, held_index, last_lags}
use Rattle.applied.proofs.frames.held_frames.Goals as goal

pub returns : goal.returns
returns c = record { gains = held_gains; index = held_index; lags = last_lags }
