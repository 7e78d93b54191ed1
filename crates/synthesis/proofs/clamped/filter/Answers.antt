-- `synthesis::filter` meets its contract: the first forty samples are all of them, and the history is the last ten.
use Rattle.std.proofs.Common.{rules, ◌≡◌, ◌∙◌}
use Rattle.synthesis.specs.Synthesis.{samples, filtered}
use Rattle.synthesis.proofs.Samples.{first_samples_all}
use Rattle.synthesis.proofs.clamped.filter.Goals as goal

pub returns : goal.returns
unfolding filtered
returns c =
    let a = c.args in
    let f = c.first_samples-samples in
    let e : f.result ≡ samples 10 a.coefficients a.excitation a.history = f.ensures ∙ first_samples_all 40 10 a.coefficients a.excitation a.history (search rules) in
    rw (c.newest-history.ensures, e)
