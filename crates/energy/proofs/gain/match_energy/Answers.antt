-- `match_energy` meets its contract: by the output's energy.
use Rattle.std.proofs.Common.{◌∙◌}
use Rattle.energy.proofs.control.Controls.{agc2_none, agc2_some}
use Rattle.energy.proofs.gain.match_energy.Goals as goal

pub returns-in-Some : goal.returns-in-Some
returns-in-Some c =
    let gain = c.in-Some.ensures in
    rw gain.1 at c.scaled.ensures ∙ agc2_some c.args.input c.args.output gain.0

pub returns-in-None : goal.returns-in-None
returns-in-None c = agc2_none c.args.input c.args.output c.in-None.ensures
