-- `PitchLag::from_relative` meets its contract: the least lag lies in 20..=134, so no step clamps and the product is the division by 3: relative_is.
use Rattle.std.proofs.Common.{refl, sym, ◌∙◌}
use Rattle.pitch.proofs.Lags.{lag_eq, relative_is}
use Rattle.pitch.proofs.PitchLag.from_relative.Goals as goal

pub returns : goal.returns
returns c =
    let least = c.least.ensures in
    lag_eq refl c.fraction_of.ensures ∙ sym (relative_is c.args.index c.args.previous.samples c.least.result c.ranges.index.fits (sym least.value) least.range.0 least.range.1)
