-- `core_numbers` meets its contract: the parts, one after another.
use Rattle.std.proofs.Common.{w16, SFits, to_z-of_z, rules, append-nil, refl}
use Rattle.state.specs.Layout.{core_numbers}
use Rattle.state.proofs.layout.core_numbers.Goals as goal

pub returns : goal.returns
unfolding core_numbers
returns c =
    let sharpening : SFits w16 c.args.core.sharpening.0 = search rules in
    rw (c.copy_from_slice.ensures.after, c.copy_from_slice-2.ensures.after, c.copy_from_slice-3.ensures.after, c.copy_from_slice-4.ensures.after, to_z-of_z sharpening, append-nil) refl
