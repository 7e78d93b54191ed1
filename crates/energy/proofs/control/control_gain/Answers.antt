-- `control_gain` meets its contract: by the output's energy.
use Rattle.std.proofs.Common.{◌∙◌, rules, w16, SFits, to_z-of_z}
use Rattle.lists.proofs.Signed.{back, got}
use Rattle.energy.proofs.control.Smoothing.{factor}
use Rattle.energy.proofs.control.Controls.{agc_none, agc_some}
use Rattle.energy.proofs.control.control_gain.Goals as goal

pub returns-in_default : goal.returns-in_default
returns-in_default c = agc_none c.args.control.previous_gain c.args.input c.args.output c.in_default.ensures

pub returns : goal.returns
returns c =
    let a = c.args in
    let gain = c.in-Some.ensures in
    let f : SFits w16 c.in-Some.gain.0 = search rules in
    rw (got w16 c.mult.type_inv c.mult.ensures, to_z-of_z f, gain.1, back w16 {z = a.control.previous_gain} (search rules)) at c.smoothed.ensures ∙ rw factor at (agc_some a.control.previous_gain a.input a.output gain.0)
