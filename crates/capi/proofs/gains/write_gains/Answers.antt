-- `capi::write_gains`: pitch gain, then code gain.
use Rattle.std.proofs.Common.{rules, w16, SFits, to_z-of_z}
use Rattle.capi.proofs.gains.write_gains.Goals as goal

pub returns : goal.returns
returns c =
    let g = c.args.gains in
    let pitch : SFits w16 g.pitch.0 = search rules in
    let code : SFits w16 g.code.0 = search rules in
    rw (to_z-of_z pitch, to_z-of_z code) at c.put.ensures
