-- `CheckedSheet::inputs` meets its contract: step after step, and the LSFs lie in their range.
use Rattle.std.proofs.Common.{◌≡◌, refl, sym, subst, ap, List, [], ◌∷◌, arith, rules, length, w16, SFits, to_z-of_z}
use Rattle.pitch.specs.Lag.{Lag, lag_of}
use Rattle.spectral.specs.Lsp.{Frequencies}
use Rattle.basicop.proofs.Range.{to_z_nat}
use Rattle.outcome.specs.Outcome.{is_accepted}
use Rattle.kinds.specs.Kind.{kind_of}
use Rattle.kinds.specs.Checked.{checked_kind}
use Rattle.kinds.specs.Prepass.{kind_step, steps, after_erased, prepared_after}
use Rattle.kinds.proofs.Groups.{lsfs_accept}
use Rattle.kinds.proofs.Passed.{ten_of}
use Rattle.kinds.proofs.Sheets.{mark_is}
use Rattle.kinds.proofs.Steps.{step_first, prepared_is}
use Rattle.kinds.proofs.sheet.CheckedSheet.inputs.Goals as goal

pub invariant_of-inputs : goal.invariant_of-inputs
invariant_of-inputs c =
    let a = c.args.self in
    let ten : length c.stretch.result ≡ 10 = search rules in
    record { frequencies = subst Frequencies (sym c.stretch.ensures) (lsfs_accept a.numbers.now (ten_of (checked_kind a.kind) a.numbers.now a.count) (ap is_accepted a.lsfs)) }

pub returns : goal.returns
unfolding prepared_after
returns c =
    let a = c.args.self in
    let x = a.numbers.now in
    let b = c.args.before in
    let kind = kind_of (checked_kind a.kind) in
    let l = c.lags-lags.result in
    let f : SFits w16 b.erased = search rules in
    let t : SFits w16 b.last_lag = search rules in
    let m : SFits w16 c.mark.result = search rules in
    let step = kind_step kind x (after_erased b) in
    let fourth = step_first step 3 (lag_of l.d) [] _ (rw (mark_is b.erased f) at c.step-4.ensures.value) refl in
    let third = step_first step 2 (lag_of l.c) (lag_of l.d ∷ []) _ (rw (mark_is b.erased f) at c.step-3.ensures.value) fourth in
    let second = step_first step 1 (lag_of l.b) (lag_of l.c ∷ lag_of l.d ∷ []) _ (rw (mark_is b.erased f) at c.step-2.ensures.value) third in
    let first = step_first step 0 (lag_of l.a) (lag_of l.b ∷ lag_of l.c ∷ lag_of l.d ∷ []) _ (rw (mark_is b.erased f) at c.step.ensures.value) second in
    prepared_is kind x b (λ (lags : List Lag). steps step 0 lags c.args.memory) c.stretch.ensures (rw (to_z-of_z t) at c.lags-lags.ensures) first (to_z_nat w16 l.d.samples 145 (omega (arith, l.fourth)) tt) (rw (to_z-of_z m) c.mark.ensures)
