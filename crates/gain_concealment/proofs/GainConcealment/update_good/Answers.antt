-- `update_good` meets its contract: after an erased frame the held gains are used, else the gains as they came.
use Rattle.std.proofs.Common.{sym, subst}
use Rattle.gain_concealment.specs.Concealment.{good_gains}
use Rattle.gain_concealment.specs.Laws.{Used}
use Rattle.gain_concealment.proofs.Ranges.{good_kept}
use Rattle.gain_concealment.proofs.GainConcealment.update_good.Goals as goal
use Rattle.gain_concealment.proofs.GainConcealment.update_good.Goals.{then-erased, else-erased}

pub returns-clause-value : goal.returns-clause-value
unfolding good_gains
returns-clause-value c =
    elim c.if-erased.branch [
      | then-erased w ↦ rw (c.update.ensures, w.held-is, w.if-erased.true, w.hold-held.ensures)
      | else-erased w ↦ rw (c.update.ensures, w.held-is, w.if-erased.false)
    ]

pub returns-clause-kept : goal.returns-clause-kept
returns-clause-kept c = λ n k. let a = c.args in subst Used (sym (returns-clause-value c)) (good_kept a.erased a.gains a.self n k)
