-- `check_pitch` meets its contract: the place is that of the search.
use Rattle.std.proofs.Common.{[], ◌∙◌, arith}
use Rattle.outcome.specs.declared.Refusal.TheVariants.{PitchIndex}
use Rattle.outcome.proofs.Checks.{place_met, place_unmet, none_left}
use Rattle.lists.proofs.Entries.{stretch_length}
use Rattle.kinds.proofs.checks.check_pitch.Goals as goal

pub returns-in-Some : goal.returns-in-Some
returns-in-Some c = place_met PitchIndex _ 4 [] (stretch_length c.args.sheet.now 10 4 (omega (arith, c.requires))) c.in-Some.ensures

pub returns : goal.returns
returns c = none_left ∙ place_unmet PitchIndex _ 4 [] (stretch_length c.args.sheet.now 10 4 (omega (arith, c.requires))) c.in_default.ensures
