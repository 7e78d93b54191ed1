-- `postfilter::impulse` meets its contract: of forty samples, the 22 that were made.
use Rattle.std.proofs.Common.{◌≡◌, ap, ◌∙◌, rules, length, take}
use Rattle.postfilter.proofs.Impulses.{impulse_first}
use Rattle.postfilter.proofs.tilting.impulse.Goals as goal

pub returns : goal.returns
returns c =
    let a = c.args in
    let f = rw (c.unwrap.ensures) at c.first_chunk.ensures.cases in
    let l : length a.numerator ≡ 11 = search rules in
    f.same ∙ ap (take 22) c.first_samples-samples.ensures ∙ rw (c.padded.ensures, l) (impulse_first a.numerator a.denominator (search rules))
