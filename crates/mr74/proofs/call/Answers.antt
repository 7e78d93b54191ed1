-- The checks, then the frame or the refusal: kind_accepted, kind_refused.
use Rattle.std.proofs.Common.{arith, List, ◌≡◌, ap, ◌∙◌, rules, ℤ, length}
use Rattle.outcome.specs.Outcome.{is_accepted}
use Rattle.state.proofs.Checks.{in_range}
use Rattle.kinds.specs.Kind.{SheetKind, kind_of}
use Rattle.kinds.specs.Checked.{lent_kind}
use Rattle.kinds.specs.Prepass.{opened_memory, prepared_after}
use Rattle.kinds.proofs.Passed.{passed}
use Rattle.mr74.proofs.Answers.{kind_accepted, kind_refused}
use Rattle.mr74.proofs.call.Goals as goal

pub inputs-prepared-requires : goal.inputs-prepared-requires
inputs-prepared-requires c =
    let a = c.args in
    let k = (in_range a.state (passed (lent_kind a.kind) a.sheet.now a.state _ (ap is_accepted c.in-Ok.ensures.0)).state).concealment in
    record { kept = k.gains; lag = (k.from, k.to) }

pub copy_from_slice-requires : goal.copy_from_slice-requires
copy_from_slice-requires c =
    let a = c.args in
    let made : length c.decode.result.1 ≡ 160 = search rules in
    omega (arith, (passed (lent_kind a.kind) a.sheet.now a.state _ (ap is_accepted c.in-Ok.ensures.0)).lent, made)

pub returns-in-Ok : goal.returns-in-Ok
returns-in-Ok c =
    let a = c.args in
    let k = c.in-Ok.ensures in
    let m = opened_memory a.gain_decoder.energies a.state in
    let prepared = c.inputs-prepared.ensures
    ∙ ap (λ (kind : SheetKind). prepared_after (kind_of kind) c.in-Ok.checked.numbers.now a.state.concealment m) k.1.0
    ∙ ap (λ (sheet : List ℤ). prepared_after (kind_of (lent_kind a.kind)) sheet a.state.concealment m) k.1.1 in
    kind_accepted (kind_of (lent_kind a.kind)) a.gain_decoder.energies a.sheet.now a.state a.out.now k.0 prepared c.decode.ensures c.copy_from_slice.ensures.after

pub returns-in-Err : goal.returns-in-Err
returns-in-Err c =
    let a = c.args in
    kind_refused (kind_of (lent_kind a.kind)) a.gain_decoder.energies a.sheet.now a.state a.out.now c.in-Err.ensures c.refused.ensures
