-- The theorem of proofs/Peaks.antt.
use Rattle.applied.proofs.Peaks.{peaks_applied}
use Rattle.applied.proofs.outputs.line_peaks.Goals as goal

pub returns : goal.returns
returns c = peaks_applied
