-- `Row::tested` meets its contract: after k taps the sum is that of k taps, and no number on the way lies outside.
use Rattle.std.proofs.Common.{rules, Bor, ◌∙◌, add-one, ℤ, length, w16, w32, SFits, to_z-of_z}
use Rattle.std.proofs.lemmas.List.{length_push}
use Rattle.lists.specs.Lists.{at}
use Rattle.lists.proofs.Signed.{back}
use Rattle.synthesis.proofs.Pairs.{Tap, tap_turn, tap_end}
use Rattle.synthesis.proofs.Taps.{first_fits, tap_fits, is_sum_none, is_sum_more}
use Rattle.synthesis.proofs.row.Row.tested.Goals as goal
use Rattle.synthesis.proofs.row.Row.tested.Goals.{After-doubled-in-loop-c}

pub returns-in_err-s : goal.returns-in_err-s
returns-in_err-s c =
    let a = c.args.self.now.coefficients in
    rw (c.from_residual.ensures) (λ e. c.in_err-s.ensures (rw (back w16 {z = at a 0} c.doubled-arg-1.given, back w16 c.ranges.x.sfits) (first_fits a c.args.x c.args.y.now 10 e)))

pub loop-c-init : goal.loop-c-init
loop-c-init c =
    let a = c.args.self.now.coefficients in
    let q = rw (back w16 {z = at a 0} c.doubled-arg-1.given) at c.in_ok-s.ensures in
    let f : SFits w32 c.in_ok-s.s = search rules in
    rw (to_z-of_z f) (is_sum_none q.1 f)

turn : (c : After-doubled-in-loop-c) → Tap c.args.self.now.coefficients c.args.y.now (length c.loop-c.yielded) c.in-Some.c.now c.in-Some.v.now
turn c =
    let l = c.loop-c in
    tap_turn c.args.self.now.coefficients c.args.y.now (search rules) (search rules) c.into_iter-c-iterator.result (cc) (cc) l.yielded l.c-iterator c.next.new.self l.yielded_by (c.in-Some.c, c.in-Some.v) c.in-Some.is c.next.ensures.steps

pub returns-in_err-p : goal.returns-in_err-p
returns-in_err-p c =
    let d = c.before.before.before in
    let t = turn d in
    let b = back w16 {z = c.in-Some.c.now} c.doubled-arg-in-loop-c-1.given ∙ t.coefficient in
    let v = back w16 {z = c.in-Some.v.now} c.doubled-arg-in-loop-c-2-1.given ∙ t.sample in
    rw (c.from_residual-in_err-p.ensures) (λ e. c.in_err-p.ensures (rw (b, v) (tap_fits c.args.self.now.coefficients c.args.x c.args.y.now 10 e (length c.loop-c.yielded) t.more).0))

pub returns-in_err-s-2 : goal.returns-in_err-s-2
returns-in_err-s-2 c =
    let t = turn c.before.before.before.before.before.before in
    let b = back w16 {z = c.in-Some.c.now} c.doubled-arg-in-loop-c-1.given ∙ t.coefficient in
    let v = back w16 {z = c.in-Some.v.now} c.doubled-arg-in-loop-c-2-1.given ∙ t.sample in
    let q = rw (b, v) at c.in_ok-p.ensures in
    let f : SFits w32 c.in_ok-p.p = search rules in
    let r = rw (back w16 c.ranges.x.sfits) at c.loop-c.invariant in
    rw (c.from_residual-in_err-s-2.ensures) (λ e. c.in_err-s-2.ensures (rw (to_z-of_z f, q.1, r.is) (tap_fits c.args.self.now.coefficients c.args.x c.args.y.now 10 e (length c.loop-c.yielded) t.more).1))

pub loop-c-preserved : goal.loop-c-preserved
loop-c-preserved c =
    let t = turn c.before.before.before.before.before in
    let b = back w16 {z = c.in-Some.c.now} c.doubled-arg-in-loop-c-1.given ∙ t.coefficient in
    let v = back w16 {z = c.in-Some.v.now} c.doubled-arg-in-loop-c-2-1.given ∙ t.sample in
    let q = rw (b, v) at c.in_ok-p.ensures in
    let f : SFits w32 c.in_ok-p.p = search rules in
    let g : SFits w32 c.in_ok-s-2.s = search rules in
    let s = rw (to_z-of_z f) at c.in_ok-s-2.ensures in
    let n : Bor ℤ × Bor ℤ = (c.in-Some.c, c.in-Some.v) in
    rw (length_push c.loop-c.yielded n, add-one (length c.loop-c.yielded), to_z-of_z g) (is_sum_more c.loop-c.invariant q.1 f s.1 g)

pub returns : goal.returns
returns c =
    let l = c.loop-c in
    let n = tap_end c.args.self.now.coefficients c.args.y.now (search rules) (search rules) c.into_iter-c-iterator.result (cc) (cc) l.yielded l.c-iterator c.next.new.self l.yielded_by c.in-None.is c.next.ensures.steps in
    let r = rw (back w16 c.ranges.x.sfits, n) at l.invariant in
    (r.inside, r.is)
