-- `post_numbers` meets its contract: the parts, one after another.
use Rattle.std.proofs.Common.{w16, SFits, to_z-of_z, rules, refl}
use Rattle.state.specs.Layout.{post_numbers}
use Rattle.state.proofs.layout.post_numbers.Goals as goal

pub returns : goal.returns
unfolding post_numbers
returns c =
    let residual : SFits w16 c.args.post.previous_residual = search rules in
    let gain : SFits w16 c.args.post.gain.previous_gain = search rules in
    rw (c.copy_from_slice.ensures.after, c.copy_from_slice-2.ensures.after, c.copy_from_slice-3.ensures.after, to_z-of_z residual, to_z-of_z gain) refl
