-- `median` meets its contract: what the comparisons choose is the third in order.
use Rattle.std.proofs.Common.{◌≡◌, sym, ◌∙◌, rules, ℕ, length, w16, SFits, to_z-of_z}
use Rattle.lists.specs.Lists.{at}
use Rattle.lists.proofs.Signed.{got, entry_fits}
use Rattle.gain_concealment.proofs.Sorting.{sorted_kept, median_of_any}
use Rattle.gain_concealment.proofs.Third.{third_is}
use Rattle.gain_concealment.proofs.median.Goals as goal

pub returns-clause-value : goal.returns-clause-value
returns-clause-value c =
    let xs = c.args.numbers in
    let five : length xs ≡ 5 = search rules in
    let each : (k : ℕ) → SFits w16 (at xs k) = λ k. search (rules, entry_fits) in
    let low_ab = got w16 c.min.type_inv c.min.ensures.value in
    let low_cd = got w16 c.min-2.type_inv c.min-2.ensures.value in
    let low = got w16 c.max-low.type_inv c.max-low.ensures.value in
    let high_ab = got w16 c.max.type_inv c.max.ensures.value in
    let high_cd = got w16 c.max-2.type_inv c.max-2.ensures.value in
    let high = got w16 c.min-high.type_inv c.min-high.ensures.value in
    let lesser = got w16 c.min-3.type_inv c.min-3.ensures.value in
    let greater = got w16 c.max-3.type_inv c.max-3.ensures.value in
    let held = got w16 c.min-4.type_inv c.min-4.ensures.value in
    let third = got w16 c.max-4.type_inv c.max-4.ensures.value in
    rw (third, lesser, held, greater, low, high, low_ab, low_cd, high_ab, high_cd, to_z-of_z (each 0), to_z-of_z (each 1), to_z-of_z (each 2), to_z-of_z (each 3), to_z-of_z (each 4)) (third_is xs five)

pub returns-clause-in_order : goal.returns-clause-in_order
returns-clause-in_order c = sorted_kept c.args.numbers

pub returns-clause-any_order : goal.returns-clause-any_order
returns-clause-any_order c = λ others p. sym (median_of_any c.args.numbers others p) ∙ sym (returns-clause-value c)
