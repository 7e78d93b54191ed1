-- `check_lag` meets its contract: below 19 or above 144.
use Rattle.std.proofs.Common.{[], ◌∙◌, rules, w16, SFits, to_z-of_z}
use Rattle.outcome.specs.declared.Refusal.TheVariants.{LastLag}
use Rattle.outcome.proofs.Checks.{met, unmet, none_left}
use Rattle.state.proofs.Checks.{one_low, one_high, neither}
use Rattle.state.proofs.check_lag.Goals as goal
use Rattle.state.proofs.check_lag.Goals.{then-low-via-then-low, then-low-via-else-low+then-high}

pub returns-then-low : goal.returns-then-low
returns-then-low c =
    let lag : SFits w16 c.args.concealment.last_lag = search rules in
    elim c.then-low.branch [
      | then-low-via-then-low w ↦ met _ LastLag [] (one_low _ (rw (to_z-of_z lag) at w.if-low.true))
      | then-low-via-else-low+then-high w ↦ met _ LastLag [] (one_high _ (rw (to_z-of_z lag) at w.if-high.true))
    ]

pub returns : goal.returns
returns c =
    let lag : SFits w16 c.args.concealment.last_lag = search rules in
    none_left ∙ unmet _ LastLag [] (neither (rw (to_z-of_z lag) at c.if-low.false) (rw (to_z-of_z lag) at c.if-high.false))
