-- The theorems of proofs/Postfilter.antt.
use Rattle.applied.proofs.Postfilter.{tilt_applied, frame_applied}
use Rattle.applied.proofs.stages.tilts.Goals as goal

pub returns : goal.returns
returns c = record { tilt = tilt_applied; frame = frame_applied }
