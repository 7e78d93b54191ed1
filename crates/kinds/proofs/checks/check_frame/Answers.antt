-- `check_frame` meets its contract: group after group, the first that refuses decides.
use Rattle.std.proofs.Common.{◌∙◌}
use Rattle.outcome.proofs.Checks.{refused_here, accepted_here}
use Rattle.kinds.specs.Checks.{pitch_checks, gain_checks}
use Rattle.kinds.proofs.checks.check_frame.Goals as goal

pub returns-in_err-check_pitch : goal.returns-in_err-check_pitch
returns-in_err-check_pitch c = let s = c.args.sheet.now in refused_here (pitch_checks s) (gain_checks s) c.in_err-check_pitch.ensures c.from_residual.ensures.1

pub returns : goal.returns
returns c = let s = c.args.sheet.now in c.check_gains.ensures ∙ accepted_here (pitch_checks s) (gain_checks s) c.in_ok-check_pitch.ensures
