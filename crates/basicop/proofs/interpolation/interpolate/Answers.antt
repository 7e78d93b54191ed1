-- `interpolate` meets its contract: from the entry at the index, less the part of the step to the next.
use Rattle.std.proofs.Common.{◌≡◌, refl, ap, ap₂, ◌∙◌, rules, ◌+◌, List, ℤ, pos, negsuc, ◌+ℤ◌, ◌≤ℤ◌, nat_abs, w16, w32, to_z-of_z, SFits}
use Rattle.lists.specs.Lists.{at, entry}
use Rattle.lists.proofs.Signed.{back, got}
use Rattle.basicop.specs.Ops.{sub, l_msu, l_deposit_h}
use Rattle.basicop.proofs.interpolation.interpolate.Goals as goal

entries : (table : List ℤ) (z : ℤ) → pos 0 ≤ℤ z → (at table (nat_abs z) ≡ entry table z) × (at table (nat_abs z + 1) ≡ entry table (z +ℤ pos 1))
entries table (pos n) h = (refl, refl)
entries table (negsuc n) h = absurd h.le

pub returns : goal.returns
returns c =
    let t = c.args.table.now in
    let p = c.args.position in
    let index : SFits w16 p.index = search rules in
    let e = entries t p.index c.requires.0 in
    let low = back w16 {z = at t (nat_abs p.index)} (search rules) ∙ e.0 in
    let next = back w16 {z = at t (nat_abs p.index + 1)} (search rules) ∙ e.1 in
    let base = got w32 c.l_deposit_h.type_inv (rw (to_z-of_z index) at c.l_deposit_h.ensures ∙ ap l_deposit_h low) in
    let step = got w16 c.sub.type_inv (rw (to_z-of_z index) at c.sub.ensures ∙ ap₂ sub low next) in
    got w32 c.l_msu.type_inv (rw (base, step) at c.l_msu.ensures ∙ ap (l_msu (l_deposit_h (entry t p.index)) (sub (entry t p.index) (entry t (p.index +ℤ pos 1)))) (back w16 {z = p.fraction} (search rules)))
