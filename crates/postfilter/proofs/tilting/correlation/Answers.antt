-- `postfilter::correlation` meets its contract: the fold goes over the neighbours, each number beside the next.
use Rattle.std.proofs.Common.{rules, ◌∙◌, ℤ, take, drop, w32}
use Rattle.std.proofs.lemmas.Iterator.{YieldsList-from_slice, YieldsList-from_zip}
use Rattle.std.proofs.lemmas.Iterator.Consumers.{fold_from_yields_List}
use Rattle.lists.proofs.Signed.{got}
use Rattle.basicop.specs.Ops.{l_mac}
use Rattle.postfilter.proofs.Correlations.{fold_neighbours}
use Rattle.postfilter.proofs.tilting.correlation.Goals as goal

pub returns : goal.returns
returns c =
    let h = c.args.h in
    let steps = fold_from_yields_List _ (λ (s : ℤ) (p : ℤ × ℤ). l_mac s p.0 p.1) _ _ c.fold.ensures.ran (YieldsList-from_zip (YieldsList-from_slice h (cc)) (YieldsList-from_slice (take 21 (drop 1 h)) (cc))) (λ s p b q c. search rules) in
    got w32 c.fold.type_inv (steps ∙ fold_neighbours h (search rules))
