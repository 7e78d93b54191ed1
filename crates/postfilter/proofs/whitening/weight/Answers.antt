-- `postfilter::weight` meets its contract: the first coefficient, and each of the others by its factor.
use Rattle.std.proofs.Common.{◌+◌, rules, ◌≡◌, ap, ap₂, ◌∙◌, ◌++◌, pos, drop}
use Rattle.std.proofs.lemmas.List.{take_more}
use Rattle.lists.specs.Lists.{at}
use Rattle.lists.proofs.Entries.{at_drop}
use Rattle.lists.proofs.Made.{made_pairwise}
use Rattle.postfilter.specs.Weight.{weighted_by, weighted}
use Rattle.postfilter.proofs.whitening.weight.Goals as goal

pub returns : goal.returns
unfolding weighted
returns c =
    let a = c.args.coefficients in
    let f = c.args.factors.now in
    let rest = made_pairwise _ _ weighted_by (drop 1 a) f c.from_fn-weighted.ensures.items (search rules) (search rules) (λ i q y h c.
    let s : (q ≡ _) × (y ≡ weighted_by (at a (i + 1)) (at f i)) = search rules in
    (s.0, s.1 ∙ ap (λ x. weighted_by x (at f i)) (at_drop a 1 i))) in
    c.joined.ensures ∙ ap₂ (λ xs ys. xs ++ ys) (take_more a 0 (pos 0) (search rules)) rest
