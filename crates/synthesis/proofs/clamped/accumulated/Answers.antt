-- `synthesis::accumulated` meets its contract: the fold goes by the taps, and after k of them the sum is the clamped one of k taps.
use Rattle.std.proofs.Common.{rules, ◌≡◌, ap₂, ◌∙◌, ℤ, w16, w32, to_z, of_z}
use Rattle.std.proofs.lemmas.Iterator.Consumers.{fold_from_yields_List}
use Rattle.lists.specs.Lists.{at}
use Rattle.lists.proofs.Signed.{back, got}
use Rattle.basicop.specs.Ops.{l_mult, l_msu}
use Rattle.synthesis.proofs.Pairs.{road, fold_acc}
use Rattle.synthesis.proofs.clamped.accumulated.Goals as goal

pub returns : goal.returns
returns c =
    let a = c.args.a.now in
    let y = c.args.y.now in
    let first : to_z w32 (of_z w32 c.l_mult-first.result) ≡ l_mult c.args.x (at a 0) = got w32 c.l_mult-first.type_inv (c.l_mult-first.ensures ∙ ap₂ l_mult (back w16 c.ranges.x.sfits) (back w16 {z = at a 0} c.l_mult-arg-1.given)) in
    let steps = fold_from_yields_List _ (λ (s : ℤ) (p : ℤ × ℤ). l_msu s p.0 p.1) _ _ c.fold.ensures.ran (road a y (search rules) (search rules) c.zip.result (cc) (cc)) (λ s p b q c. search rules) in
    got w32 c.fold.type_inv (steps ∙ rw first (fold_acc a y (search rules) (search rules) c.args.x))
