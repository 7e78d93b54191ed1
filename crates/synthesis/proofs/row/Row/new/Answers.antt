-- `Row::new` meets its contract: the sum is the weight, which is small.
use Rattle.std.proofs.Common.{rules, ap, ◌∙◌, ℕ, arith, ltb, nat_abs, w16, SFits}
use Rattle.std.proofs.lemmas.Iterator.{YieldsList-from_slice, YieldsList-from_map}
use Rattle.std.proofs.lemmas.Iterator.Consumers.{YieldsList-at, sum_by_from_yields_List, fits_by_from_yields_list}
use Rattle.lists.specs.Lists.{at}
use Rattle.lists.proofs.Signed.{entry_fits}
use Rattle.synthesis.proofs.Taps.{weight_sum, weight_most}
use Rattle.synthesis.proofs.row.Row.new.Goals as goal

pub sum-weight-requires-clause-fits : goal.sum-weight-requires-clause-fits
sum-weight-requires-clause-fits c =
    let a = c.args.coefficients in
    let each : (k : ℕ) → SFits w16 (at a k) = λ k. search (rules, entry_fits) in
    fits_by_from_yields_list nat_abs a c.map.result _
    (YieldsList-from_map _ _ (YieldsList-at c.map.ensures.source (YieldsList-from_slice a cc)) c.map.ensures.closure (λ x r q k. search rules))
    (omega (arith, weight_sum a (search rules), weight_most a each))

pub invariant_of-result : goal.invariant_of-result
invariant_of-result c =
    let a = c.args.coefficients in
    let sum = sum_by_from_yields_List nat_abs a c.map.result _ c.sum-weight.ensures.ran (YieldsList-from_map _ _ (YieldsList-at c.map.ensures.source (YieldsList-from_slice a cc)) c.map.ensures.closure (λ x r q k. search rules)) in
    record { weighed = ap (λ (w : ℕ). ltb w 32768) (sum ∙ weight_sum a (search rules)) }
