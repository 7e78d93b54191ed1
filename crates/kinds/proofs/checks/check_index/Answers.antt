-- `check_index` meets its contract: group after group, the first that refuses decides.
use Rattle.std.proofs.Common.{List, ◌++◌, ◌≡◌, sym, ◌∙◌, ℤ}
use Rattle.std.specs.Prelude.{Ok}
use Rattle.std.proofs.lemmas.Result.{err_from_is_err_and}
use Rattle.outcome.specs.Checks.{first_met}
use Rattle.outcome.proofs.Checks.{refused_first, accepted_here}
use Rattle.gain.specs.Checks.{table_checks, index_checks}
use Rattle.kinds.specs.Sheet.{gain_indices_of}
use Rattle.kinds.specs.Checks.{pitch_checks}
use Rattle.kinds.specs.Kind.{index_kind}
use Rattle.kinds.proofs.checks.check_index.Goals as goal

-- what is left after a group that accepts
module _ (logs pows sheet : List ℤ) (p : Ok tt ≡ first_met (pitch_checks sheet)) where
  after_pitch : first_met (table_checks logs pows ++ index_checks 4 (gain_indices_of sheet)) ≡ first_met ((index_kind logs pows).checks sheet)
  after_pitch = accepted_here (pitch_checks sheet) (table_checks logs pows ++ index_checks 4 (gain_indices_of sheet)) p

  after_tables : Ok tt ≡ first_met (table_checks logs pows) → first_met (index_checks 4 (gain_indices_of sheet)) ≡ first_met ((index_kind logs pows).checks sheet)
  after_tables t = accepted_here (table_checks logs pows) (index_checks 4 (gain_indices_of sheet)) t ∙ after_pitch

pub returns-in_err-check_pitch : goal.returns-in_err-check_pitch
returns-in_err-check_pitch c =
    let a = c.args in
    let s = a.sheet.now in
    let p = err_from_is_err_and c.from_residual.result c.from_residual.ensures.1 in
    rw (p.1, p.2) (sym (refused_first (pitch_checks s) (table_checks a.logs.now a.pows.now ++ index_checks 4 (gain_indices_of s)) c.in_err-check_pitch.ensures))

pub returns-in_err-tables : goal.returns-in_err-tables
returns-in_err-tables c =
    let a = c.args in
    let s = a.sheet.now in
    let p = err_from_is_err_and c.from_residual-in_err-tables.result c.from_residual-in_err-tables.ensures.1 in
    rw (p.1, p.2)
    (sym (refused_first (table_checks a.logs.now a.pows.now) (index_checks 4 (gain_indices_of s)) (sym c.in_err-tables.ensures.value) ∙ after_pitch a.logs.now a.pows.now s c.in_ok-check_pitch.ensures))

pub returns-in_err-check_indices : goal.returns-in_err-check_indices
returns-in_err-check_indices c =
    let a = c.args in
    let s = a.sheet.now in
    let p = err_from_is_err_and c.from_residual-in_err-check_indices.result c.from_residual-in_err-check_indices.ensures.1 in
    rw (p.1, p.2) (sym (c.in_err-check_indices.ensures ∙ rw c.window.ensures (after_tables a.logs.now a.pows.now s c.in_ok-check_pitch.ensures (sym c.in_ok-tables.ensures.value.0))))

pub returns : goal.returns
returns c =
    let a = c.args in
    let s = a.sheet.now in
    (sym (c.in_ok-check_indices.ensures ∙ rw c.window.ensures (after_tables a.logs.now a.pows.now s c.in_ok-check_pitch.ensures (sym c.in_ok-tables.ensures.value.0))), c.in_ok-tables.ensures.value.1)
