-- `postfilter::residual` meets its contract: each number is that of its window of eleven inputs.
use Rattle.std.proofs.Common.{◌+◌, rules, ◌≡◌, ap, ◌∙◌, arith, length, take, drop, ℤ, pos}
use Rattle.basicop.specs.Ops.{l_shl, round}
use Rattle.lists.proofs.Made.{made_tab}
use Rattle.postfilter.specs.Residual.{residual_at, residual}
use Rattle.postfilter.proofs.Residuals.{residual_window}
use Rattle.postfilter.proofs.whitening.residual.Goals as goal

pub returns : goal.returns
unfolding residual
returns c =
    let a = c.args.numerator in
    let x = c.joined-x.result in
    let l : length x ≡ 50 = search rules in
    let e = c.new-row.ensures in
    rw (← c.joined-x.ensures) (made_tab _ _ (λ n. residual_at a x (n + 10)) c.from_fn.ensures.items (λ i q y h c.
    let s : (q ≡ _) × (y ≡ residual_at a (take 11 (drop i x)) 10) = search rules in
    (s.0, s.1 ∙ ap (λ (r : ℤ). round (l_shl r (pos 3))) (residual_window a x i (omega (arith, h, l))))))
