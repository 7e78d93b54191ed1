-- `row` meets its contract: after k turns coefficients 0 to k and the last k are those of the row.
use Rattle.std.proofs.Common.{◌+◌, ◌-◌, rules, ◌≡◌, refl, ap, ap₂, ◌∙◌, w16, w32}
use Rattle.lists.proofs.Signed.{back, got}
use Rattle.lists.proofs.Fill.{fill_none, fill_keep}
use Rattle.basicop.specs.Ops.{l_add, l_sub}
use Rattle.lpc.specs.Rows.{coefficient}
use Rattle.lpc.proofs.Coefficients.{length_row, row_front, row_back}
use Rattle.lists.proofs.Ends.{ends_none, ends_front, ends_back, ends_done}
use Rattle.lpc.proofs.row.Goals as goal

pub loop-k-init : goal.loop-k-init
loop-k-init c = (search rules, ends_none (fill_keep (fill_none (length_row c.args.f c.args.g) (search rules)) refl (search rules) (search rules)))

pub loop-k-preserved : goal.loop-k-preserved
loop-k-preserved c =
    let a = c.args in
    let k = c.loop-k.k in
    let es = got w32 c.l_add-s.type_inv (c.l_add-s.ensures ∙ ap₂ l_add (back w32 c.l_add-arg-1.given) (back w32 c.l_add-arg-in-loop-k-1.given)) in
    let ed = got w32 c.l_sub-d.type_inv (c.l_sub-d.ensures ∙ ap₂ l_sub (back w32 c.l_sub-arg-1.given) (back w32 c.l_sub-arg-in-loop-k-1.given)) in
    let front = got w16 c.rounded_coefficient.type_inv (c.rounded_coefficient.ensures ∙ ap coefficient (got w32 c.l_add.type_inv c.l_add.ensures) ∙ row_front a.f a.g k (search rules) es ed) in
    let last = got w16 c.rounded_coefficient-in-loop-k.type_inv (c.rounded_coefficient-in-loop-k.ensures ∙ ap coefficient (got w32 c.l_sub.type_inv c.l_sub.ensures) ∙ row_back a.f a.g k (search rules) es ed) in
    let e : 11 - (k + 1) ≡ 10 - k = search rules in
    (search rules, rw e (ends_back (10 - k) (ends_front c.loop-k.invariant.1 front (search rules) (search rules)) last (search rules) (search rules) (search rules)))

pub returns : goal.returns
returns c = ends_done c.loop-k.invariant.1 (search rules)
