-- `shift_report::square_sum` meets its contract: the squares are added up, and come to at most 2 ^ 30 each.
use Rattle.std.proofs.Common.{◌<◌, ◌^◌, ◌∙◌, arith, rules, tests}
use Rattle.std.proofs.lemmas.Iterator.{YieldsList-from_slice, YieldsList-from_map}
use Rattle.std.proofs.lemmas.Iterator.Consumers.{sum_by_from_yields_List, fits_by_from_yields_list}
use Rattle.std.specs.List.{sum_by}
use Rattle.lists.proofs.Signed.{entry_fits}
use Rattle.shift_report.specs.Totals.{square}
use Rattle.shift_report.proofs.Bounds.{squares_of_frame}
use Rattle.shift_report.proofs.Counted.{squares_summed}
use Rattle.shift_report.proofs.sums.square_sum.Goals as goal

pub sum-requires-clause-fits : goal.sum-requires-clause-fits
sum-requires-clause-fits c =
    let most : sum_by square c.args.samples < 2 ^ 64 = omega (arith, squares_summed c.args.samples, squares_of_frame c.args.samples (record { count = search rules; fit = λ i. search (rules, entry_fits) })) in
    fits_by_from_yields_list square c.args.samples c.map.result _ (YieldsList-from_map _ square (YieldsList-from_slice c.args.samples cc) c.map.ensures.closure (λ x r q k. search (rules, tests))) most

pub returns : goal.returns
returns c =
    sum_by_from_yields_List square c.args.samples c.map.result _ c.sum.ensures.ran (YieldsList-from_map _ square (YieldsList-from_slice c.args.samples cc) c.map.ensures.closure (λ x r q k. search (rules, tests)))
    ∙ squares_summed c.args.samples
