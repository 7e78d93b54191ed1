-- `shift_report::retried` meets its contract: the flags that are set are counted.
use Rattle.std.proofs.Common.{◌≡◌, ◌∙◌, Bool, arith}
use Rattle.std.specs.List.{count_by}
use Rattle.std.proofs.lemmas.Grind.{common_steps}
use Rattle.shift_report.proofs.Counted.{retried_counted}
use Rattle.shift_report.proofs.sums.retried.Goals as goal

pub returns : goal.returns
returns c =
    let counted : c.count.result ≡ count_by (λ (flag : Bool). flag) c.flags-flags.result = grind (arith, common_steps) in
    counted ∙ retried_counted c.args.places c.flags-flags.result c.flags-flags.ensures
