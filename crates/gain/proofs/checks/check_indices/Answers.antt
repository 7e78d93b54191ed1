-- `check_indices` meets its contract: the place is that of the search.
use Rattle.std.proofs.Common.{[], ◌∙◌}
use Rattle.outcome.specs.declared.Refusal.TheVariants.{GainIndex}
use Rattle.outcome.proofs.Checks.{place_met, place_unmet, none_left}
use Rattle.gain.proofs.checks.check_indices.Goals as goal

pub returns-in-Some : goal.returns-in-Some
returns-in-Some g c = place_met GainIndex _ g.row.N [] c.told-indices c.in-Some.ensures

pub returns : goal.returns
returns g c = none_left ∙ place_unmet GainIndex _ g.row.N [] c.told-indices c.in_default.ensures
