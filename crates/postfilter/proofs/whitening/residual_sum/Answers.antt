-- `postfilter::residual_sum` meets its contract: after j steps the sum is that of j steps, and by its size none of them clamps of a light row.
use Rattle.std.proofs.Common.{◌≡◌, refl, sym, ◌∙◌, ℕ, ◌+◌, ◌-◌, ◌<◌, List, add-one, rules, ltb-true, Bor, ℤ, length, take, w16, w32}
use Rattle.std.proofs.lemmas.List.{length_push}
use Rattle.lists.specs.Lists.{at}
use Rattle.lists.proofs.Signed.{back, got}
use Rattle.lists.proofs.Count.{iter_done}
use Rattle.basicop.proofs.Calls.{l_mac_eq}
use Rattle.basicop.proofs.Unclamped.{unclamped_eq}
use Rattle.synthesis.proofs.Pairs.{tap_turn, tap_end}
use Rattle.postfilter.specs.Residual.{residual_sum}
use Rattle.postfilter.proofs.Residuals.{first, summed_none, next, summed_more, ago_input}
use Rattle.postfilter.proofs.whitening.residual_sum.Goals as goal
use Rattle.postfilter.proofs.whitening.residual_sum.Goals.{After-mac-arg-in-loop-c-2-1}

pub mac-s-requires : goal.mac-s-requires
mac-s-requires c q =
    unclamped_eq (back w16 c.mac-arg-1.given) (back w16 c.mac-arg-2-1.given) (first c.args.row.now.coefficients c.args.x.now 10 (λ q. ltb-true _ 32768 (sym c.args.row.now.weighed ∙ q)) c.mac-arg-1.given q).plain

pub loop-c-init : goal.loop-c-init
loop-c-init c =
    let g = c.mac-arg-1.given in
    summed_none c.args.row.now.coefficients c.args.x.now 10 (λ q. ltb-true _ 32768 (sym c.args.row.now.weighed ∙ q)) g (got w32 c.mac-s.type_inv (c.mac-s.ensures ∙ l_mac_eq refl (back w16 g) (back w16 c.mac-arg-2-1.given)))

-- the pair of this turn
record Turn (a x : List ℤ) (k : ℕ) (c v : ℤ) : Type 0 where
  more : k < 10
  coefficient : c ≡ at a (k + 1)
  input : v ≡ at x (10 - (k + 1))

turn : (c : After-mac-arg-in-loop-c-2-1) → Turn c.args.row.now.coefficients c.args.x.now (length c.loop-c.yielded) c.in-Some.c.now c.in-Some.v.now
turn c =
    let l = c.loop-c in
    let x = c.args.x.now in
    let k = length l.yielded in
    let t = tap_turn c.args.row.now.coefficients (take 10 x) (search rules) (search rules) c.into_iter-c-iterator.result (cc) (cc) l.yielded l.c-iterator c.next.new.self l.yielded_by (c.in-Some.c, c.in-Some.v) c.in-Some.is c.next.ensures.steps in
    record { more = t.more; coefficient = t.coefficient ∙ rw add-one; input = t.sample ∙ ago_input x k (search rules) t.more }

pub mac-s-requires-in-loop-c : goal.mac-s-requires-in-loop-c
mac-s-requires-in-loop-c c q =
    let t = turn c in
    let g = rw (t.input) at c.mac-arg-in-loop-c-2-1.given in
    unclamped_eq (back w16 c.mac-arg-in-loop-c-1.given ∙ t.coefficient) (back w16 c.mac-arg-in-loop-c-2-1.given ∙ t.input) (next c.args.row.now.coefficients c.args.x.now 10 (λ q. ltb-true _ 32768 (sym c.args.row.now.weighed ∙ q)) c.loop-c.invariant t.more g q).plain

pub loop-c-preserved : goal.loop-c-preserved
loop-c-preserved c =
    let t = turn c.before in
    let g = rw (t.input) at c.mac-arg-in-loop-c-2-1.given in
    let n : Bor ℤ × Bor ℤ = (c.in-Some.c, c.in-Some.v) in
    rw (length_push c.loop-c.yielded n) (summed_more c.args.row.now.coefficients c.args.x.now 10 (λ q. ltb-true _ 32768 (sym c.args.row.now.weighed ∙ q)) c.loop-c.invariant t.more g (got w32 c.mac-s-in-loop-c.type_inv (c.mac-s-in-loop-c.ensures ∙ l_mac_eq refl (back w16 c.mac-arg-in-loop-c-1.given ∙ t.coefficient) (back w16 c.mac-arg-in-loop-c-2-1.given ∙ t.input))))

pub returns : goal.returns
unfolding residual_sum
returns c =
    let l = c.loop-c in
    iter_done l.invariant.run 10 (tap_end c.args.row.now.coefficients (take 10 c.args.x.now) (search rules) (search rules) c.into_iter-c-iterator.result (cc) (cc) l.yielded l.c-iterator c.next.new.self l.yielded_by c.in-None.is c.next.ensures.steps)
