-- `excitation::sharpen` meets its contract: the samples so far are sharpened, those from here on as they came.
use Rattle.std.proofs.Common.{◌≤◌}
use Rattle.excitation.proofs.Sharpening.{Sharper}
use Rattle.excitation.proofs.sharpen.Given as goal

abbrev pub invariant-loop-i : goal.invariant-loop-i
invariant-loop-i l = (l.lag ≤ l.i) × Sharper l.initial.code l.lag l.doubled.0 l.code l.i
