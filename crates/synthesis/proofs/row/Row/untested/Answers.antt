-- `Row::untested` meets its contract: after k taps the half is at most 32768 times the weight so far in size, so that no number lies outside.
use Rattle.std.proofs.Common.{◌<◌, rules, ltb-true, Bor, sym, ◌∙◌, add-one, ℤ, pos, length, w16, w32, to_z, of_z, to_z-of_z}
use Rattle.std.proofs.lemmas.List.{length_push}
use Rattle.std.proofs.Math.IntN.{*ℤ_comm}
use Rattle.lists.specs.Lists.{at}
use Rattle.lists.proofs.Signed.{back}
use Rattle.synthesis.specs.Inner.{weight}
use Rattle.synthesis.proofs.Pairs.{Tap, tap_turn, tap_end}
use Rattle.synthesis.proofs.Taps.{light_none, light_fits, light_more, is_sum_fits}
use Rattle.synthesis.proofs.row.Row.untested.Goals as goal
use Rattle.synthesis.proofs.row.Row.untested.Goals.{After-product-half-in-loop-c}

pub loop-c-init : goal.loop-c-init
loop-c-init c =
    let w : weight c.args.self.now.coefficients < 32768 = ltb-true _ 32768 (sym c.args.self.now.weighed ∙ c.requires) in
    let p = c.product-half in
    let e = back w32 {z = p.result} p.type_inv in
    let b = back w16 {z = at c.args.self.now.coefficients 0} c.product-arg-1.given in
    light_none w (e ∙ rw b at p.ensures.0) (rw e (rw b at p.ensures.1))

turn : (c : After-product-half-in-loop-c) → Tap c.args.self.now.coefficients c.args.y.now (length c.loop-c.yielded) c.in-Some.c.now c.in-Some.v.now
turn c =
    let l = c.loop-c in
    tap_turn c.args.self.now.coefficients c.args.y.now (search rules) (search rules) c.into_iter-c-iterator.result (cc) (cc) l.yielded l.c-iterator c.next.new.self l.yielded_by (c.in-Some.c, c.in-Some.v) c.in-Some.is c.next.ensures.steps

pub overflow_sub-half : goal.overflow_sub-half
overflow_sub-half c =
    let w : weight c.args.self.now.coefficients < 32768 = ltb-true _ 32768 (sym c.args.self.now.weighed ∙ c.requires) in
    let p = c.product-half-in-loop-c in
    let t = turn c in
    let e = back w32 {z = p.result} p.type_inv in
    let b = back w16 {z = c.in-Some.c.now} c.product-arg-in-loop-c-1.given ∙ t.coefficient in
    light_fits (to_z w32 (of_z w32 p.result)) c.loop-c.invariant w t.more (rw e (rw b at p.ensures.1))

pub loop-c-preserved : goal.loop-c-preserved
loop-c-preserved c =
    let w : weight c.args.self.now.coefficients < 32768 = ltb-true _ 32768 (sym c.args.self.now.weighed ∙ c.requires) in
    let p = c.product-half-in-loop-c in
    let t = turn c in
    let e = back w32 {z = p.result} p.type_inv in
    let b = back w16 {z = c.in-Some.c.now} c.product-arg-in-loop-c-1.given ∙ t.coefficient in
    let v = back w16 {z = c.in-Some.v.now} c.product-arg-in-loop-c-2-1.given ∙ t.sample in
    let n : Bor ℤ × Bor ℤ = (c.in-Some.c, c.in-Some.v) in
    rw (length_push c.loop-c.yielded n, add-one (length c.loop-c.yielded), to_z-of_z (overflow_sub-half c)) (light_more (to_z w32 (of_z w32 p.result)) c.loop-c.invariant w t.more (rw e (rw b at p.ensures.1)) (e ∙ rw (b, v) at p.ensures.0))

pub overflow_mul-result : goal.overflow_mul-result
overflow_mul-result c = rw (*ℤ_comm (to_z w32 c.loop-c.half-bits) (pos 2)) (is_sum_fits c.loop-c.invariant.run)

pub returns : goal.returns
returns c =
    let l = c.loop-c in
    let n = tap_end c.args.self.now.coefficients c.args.y.now (search rules) (search rules) c.into_iter-c-iterator.result (cc) (cc) l.yielded l.c-iterator c.next.new.self l.yielded_by c.in-None.is c.next.ensures.steps in
    rw (to_z-of_z (overflow_mul-result c), *ℤ_comm (to_z w32 l.half-bits) (pos 2)) (rw (back w16 c.ranges.x.sfits, n) at l.invariant.run)
