-- `lines::mark` meets its contract: its three cases, by the test of the peak and then of the flags, are the definition's.
use Rattle.std.proofs.Common.{sym, ◌∙◌}
use Rattle.lines.proofs.Peaks.{mark_loud, mark_retried, mark_plain, any_listed}
use Rattle.lines.proofs.marks.mark.Goals as goal

pub returns-then-loud : goal.returns-then-loud
returns-then-loud c = mark_loud c.args.peak c.args.flags c.if-loud.true

pub returns-then-retried : goal.returns-then-retried
returns-then-retried c = mark_retried c.args.peak c.args.flags c.if-loud.false (sym (any_listed c.args.flags) ∙ sym c.contains-retried.ensures.value ∙ c.if-retried.true)

pub returns-else-retried : goal.returns-else-retried
returns-else-retried c = mark_plain c.args.peak c.args.flags c.if-loud.false (sym (any_listed c.args.flags) ∙ sym c.contains-retried.ensures.value ∙ c.if-retried.false)
