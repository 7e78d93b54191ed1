-- `synthesis::preview` meets its contract: n samples are fed, and none of their numbers lies outside.
use Rattle.std.proofs.Common.{List, ℕ, ◌+◌, ◌≤◌, rules, ◌≡◌, refl, ◌∙◌, arith, ℤ, length, w16, SFits, to_z-of_z}
use Rattle.lists.specs.Lists.{at}
use Rattle.lists.proofs.Signed.{back}
use Rattle.synthesis.specs.declared.Output.{Output}
use Rattle.synthesis.specs.Synthesis.{first_samples, overflowed_at, previewed}
use Rattle.synthesis.proofs.Flags.{true_by}
use Rattle.synthesis.proofs.Windows.{unheld_window, sample_window}
use Rattle.synthesis.proofs.Passes.{feeding_none, feeding_given, passing_none, passing_more, passing_left, passing_done}
use Rattle.synthesis.proofs.whole.preview.Goals as goal

pub loop-n-init : goal.loop-n-init
loop-n-init c = passing_none (feeding_none (search rules) (search rules) (search rules) c.padded-buf.ensures)

-- the answer of a pass that ends at the place n
previewed_by : (a x h : List ℤ) {y : List ℤ} {n : ℕ} → y ≡ first_samples n 10 a x h → n ≡ overflowed_at 10 a x h → ◌≡◌ {A = Output} (record { samples = y; place = n }) (previewed a x h)
unfolding previewed
previewed_by a x h e p = rw (e, p)

pub returns-in_default : goal.returns-in_default
returns-in_default c =
    let a = c.args.coefficients in
    let n = c.loop-n.n in
    let x = at c.args.excitation n in
    let b = c.loop-n.buf in
    let l : n + 10 ≤ length b = omega (arith, c.loop-n.invariant.run.room) in
    let e = true_by _ (rw (c.new-row.ensures, back w16 {z = x} c.sample-arg-1.given, c.window.ensures, unheld_window a x b n l) at c.in_default.ensures) in
    previewed_by a c.args.excitation c.args.history (c.stretch.ensures ∙ feeding_given a c.loop-n.invariant.run (search rules)) (passing_left c.loop-n.invariant (search rules) e)

pub loop-n-preserved : goal.loop-n-preserved
loop-n-preserved c =
    let a = c.args.coefficients in
    let n = c.loop-n.n in
    let x = at c.args.excitation n in
    let b = c.loop-n.buf in
    let l : n + 10 ≤ length b = omega (arith, c.loop-n.invariant.run.room) in
    let y : SFits w16 c.in-Some.y = search rules in
    let e = rw (c.new-row.ensures, back w16 {z = x} c.sample-arg-1.given, c.window.ensures, unheld_window a x b n l, sample_window a x b n l) at c.in-Some.ensures in
    rw (to_z-of_z y) (passing_more c.loop-n.invariant (search rules) e.0 e.1)

pub returns : goal.returns
returns c =
    let n : c.loop-n.n ≡ 40 = omega (arith, c.loop-n.auto.n-end) in
    let r = rw n at c.loop-n.invariant in
    previewed_by c.args.coefficients c.args.excitation c.args.history (c.stretch-2.ensures ∙ feeding_given c.args.coefficients r.run (search rules)) (passing_done r refl)
