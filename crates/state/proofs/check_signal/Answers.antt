-- `check_signal` meets its contract: sharpening below 0 or above 13017, then a smoothed gain below 0.
use Rattle.std.proofs.Common.{[], ◌∙◌, rules, w16, SFits, to_z-of_z}
use Rattle.outcome.specs.declared.Refusal.TheVariants.{Sharpening, SmoothedGain}
use Rattle.outcome.proofs.Checks.{met, unmet, none_left}
use Rattle.state.proofs.Checks.{one_low, one_high, neither}
use Rattle.state.proofs.check_signal.Goals as goal
use Rattle.state.proofs.check_signal.Goals.{then-low-via-then-low, then-low-via-else-low+then-high}

pub returns-then-low : goal.returns-then-low
returns-then-low c =
    let sharpening : SFits w16 c.args.state.core.sharpening.0 = search rules in
    elim c.then-low.branch [
      | then-low-via-then-low w ↦ met _ Sharpening _ (one_low _ (rw (to_z-of_z sharpening) at w.if-low.true))
      | then-low-via-else-low+then-high w ↦ met _ Sharpening _ (one_high _ (rw (to_z-of_z sharpening) at w.if-high.true))
    ]

pub returns-then-below : goal.returns-then-below
returns-then-below c =
    let sharpening : SFits w16 c.args.state.core.sharpening.0 = search rules in
    let gain : SFits w16 c.args.state.post.gain.previous_gain = search rules in
    met _ SmoothedGain [] (rw (to_z-of_z gain) at c.if-below.true)
    ∙ unmet _ Sharpening _ (neither (rw (to_z-of_z sharpening) at c.if-low.false) (rw (to_z-of_z sharpening) at c.if-high.false))

pub returns : goal.returns
returns c =
    let sharpening : SFits w16 c.args.state.core.sharpening.0 = search rules in
    let gain : SFits w16 c.args.state.post.gain.previous_gain = search rules in
    none_left
    ∙ unmet _ SmoothedGain [] (rw (to_z-of_z gain) at c.if-below.false)
    ∙ unmet _ Sharpening _ (neither (rw (to_z-of_z sharpening) at c.if-low.false) (rw (to_z-of_z sharpening) at c.if-high.false))
