-- `shift_report::count_call` meets its contract: by the outcome, the numbers of the call, or that it was refused.
use Rattle.std.proofs.Common.{◌≡◌, ◌∙◌, refl, rules, arith, length}
use Rattle.basicop.specs.Words.{Words}
use Rattle.lists.proofs.Signed.{entry_fits}
use Rattle.shift_report.specs.Totals.{accepted_count, retried_total, square_total, peak_total}
use Rattle.shift_report.proofs.Plus.{made}
use Rattle.shift_report.proofs.Counted.{counts_accepted, counts_refused, counted}
use Rattle.shift_report.proofs.sums.count_call.Goals as goal

pub returns-in-Ok : goal.returns-in-Ok
returns-in-Ok c =
    let w : Words 160 c.args.samples = record { count = search rules; fit = λ i. search (rules, entry_fits) } in
    let four : length c.args.places ≡ 4 = search rules in
    let o = c.args.outcome in
    let both =
    counted o c.args.places c.args.samples (made 1 0 c.retried.result c.square_sum.result c.from.result)
    (counts_accepted o c.args.places c.args.samples c.retried.result c.square_sum.result c.from.result c.in-Ok.is c.retried.ensures c.square_sum.ensures (c.from.ensures ∙ c.peak.ensures)) four w in
    record { call = both.0; bounded = both.1; counted = refl }

pub returns-in-Err : goal.returns-in-Err
unfolding accepted_count retried_total square_total peak_total
returns-in-Err c =
    let w : Words 160 c.args.samples = record { count = search rules; fit = λ i. search (rules, entry_fits) } in
    let four : length c.args.places ≡ 4 = search rules in
    let o = c.args.outcome in
    let both = counted o c.args.places c.args.samples (made 0 1 0 0 0) (counts_refused o c.args.places c.args.samples c.in-Err.field-0 c.in-Err.is) four w in
    rw c.zeros.ensures (record { call = both.0; bounded = both.1; counted = refl })
