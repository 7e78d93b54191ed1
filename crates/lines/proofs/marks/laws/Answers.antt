-- `lines::laws` ensures what peak and mark are beside the highest sample.
use Rattle.lines.proofs.Peaks.{peak_sides, mark_sides}
use Rattle.lines.proofs.marks.laws.Goals as goal

pub returns : goal.returns
returns c = record { peak = peak_sides; mark = mark_sides }
