-- `check_lsfs` meets its contract: the places are those of the two searches.
use Rattle.std.proofs.Common.{[], ◌∙◌, arith}
use Rattle.outcome.specs.declared.Refusal.TheVariants.{Lsf, LsfGap}
use Rattle.outcome.proofs.Checks.{place_met, place_unmet, none_left}
use Rattle.lists.proofs.Entries.{stretch_length}
use Rattle.kinds.proofs.checks.check_lsfs.Goals as goal

pub returns-in-Some : goal.returns-in-Some
returns-in-Some c = place_met Lsf _ 10 _ (stretch_length c.args.sheet.now 0 10 (omega (arith, c.requires))) c.in-Some.ensures

pub returns-in-Some-first_close : goal.returns-in-Some-first_close
returns-in-Some-first_close c =
    let ten = stretch_length c.args.sheet.now 0 10 (omega (arith, c.requires)) in
    place_met LsfGap _ 10 [] ten c.in-Some-first_close.ensures ∙ place_unmet Lsf _ 10 _ ten c.in_default.ensures

pub returns : goal.returns
returns c =
    let ten = stretch_length c.args.sheet.now 0 10 (omega (arith, c.requires)) in
    none_left ∙ place_unmet LsfGap _ 10 [] ten c.in_default-first_close.ensures ∙ place_unmet Lsf _ 10 _ ten c.in_default.ensures
