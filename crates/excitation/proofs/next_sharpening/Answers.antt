-- `excitation::next_sharpening` meets its contract: the difference from 13017, clamped, is above 0 just where the gain is above 13017.
use Rattle.std.proofs.Common.{rules, pos, w16, SFits, to_z-of_z}
use Rattle.basicop.specs.Ops.{sub}
use Rattle.basicop.proofs.Clamp.{clamp_above}
use Rattle.excitation.specs.Excitation.{sharpening}
use Rattle.excitation.proofs.next_sharpening.Goals as goal

pub returns : goal.returns
unfolding sharpening sub
returns c =
    let g = c.args.pitch.0 in
    let f : SFits w16 g = search rules in
    let m : SFits w16 c.min.result = search rules in
    rw (clamp_above w16 g (pos 13017), to_z-of_z m) (rw (to_z-of_z f) at c.min.ensures.value)
