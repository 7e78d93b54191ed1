-- `synthesis::first_samples` meets its contract: n samples are fed, and zeros stand after them.
use Rattle.std.proofs.Common.{◌+◌, ◌≤◌, ◌<◌, rules, ◌≡◌, ◌∙◌, arith, pos, length, take, length-take-le, get_or-take, w16, w32}
use Rattle.lists.specs.Lists.{at}
use Rattle.lists.proofs.Signed.{back, got}
use Rattle.synthesis.proofs.Windows.{acc_window}
use Rattle.synthesis.proofs.Passes.{feeding_none, feeding_more, feeding_given}
use Rattle.synthesis.proofs.clamped.first_samples.Goals as goal

pub loop-n-init : goal.loop-n-init
loop-n-init c = feeding_none (search rules) (search rules) (search rules) c.padded-buf.ensures

pub loop-n-preserved : goal.loop-n-preserved
loop-n-preserved c =
    let a = c.args.coefficients in
    let n = c.loop-n.n in
    let x = at c.args.excitation n in
    let b = c.loop-n.buf in
    let lx : n < 40 = search rules in
    let m : n < c.args.count = omega (arith, c.loop-n-test.true, length-take-le c.args.count c.args.excitation) in
    let t : at (take c.args.count c.args.excitation) n ≡ x = get_or-take c.args.count c.args.excitation n (pos 0) m in
    let l : n + 10 ≤ length b = omega (arith, c.loop-n.invariant.room) in
    let s = got w32 c.clamped_sum-s.type_inv (rw (c.new-row.ensures, back w16 {z = at (take c.args.count c.args.excitation) n} c.clamped_sum-arg-1.given, t, c.window.ensures, acc_window a x b n l) at c.clamped_sum-s.ensures) in
    let u = got w32 c.l_shl.type_inv (rw s at c.l_shl.ensures) in
    feeding_more c.loop-n.invariant lx (got w16 c.round.type_inv (rw u at c.round.ensures))

pub returns : goal.returns
returns c =
    let a = c.args in
    let x : length a.excitation ≡ 40 = search rules in
    let m : a.count ≤ length a.excitation = rw x (c.requires) in
    let n : c.loop-n.n ≡ a.count = omega (arith, c.loop-n.auto.n-end, c.loop-n-test.false, length-take-le a.count a.excitation m) in
    c.stretch.ensures ∙ rw n at (feeding_given a.coefficients c.loop-n.invariant (search rules))
