-- `lines::frame_line` meets its contract: its pieces, one behind another, are the definition's.
use Rattle.lines.proofs.Laid.{frame_laid}
use Rattle.lines.proofs.frame_line.Goals as goal

pub returns : goal.returns
returns c =
    frame_laid c.args.number c.args.flags c.args.peak _ _ _ _ _ _ _ _ (rw c.new-line.ensures at c.push_decimal.ensures.line) c.push.ensures c.push_flags.ensures c.push-2.ensures
    (rw c.from.ensures at c.push_decimal-2.ensures.line) c.push-3.ensures (rw c.mark.ensures at c.push-4.ensures) c.push-5.ensures
