-- `recorded::energies_agree` meets its contract: the energies are read where the frame ends.
use Rattle.recorded.proofs.Rows.{too_few}
use Rattle.recorded.proofs.Frames.{energies_read, energies_unread}
use Rattle.recorded.proofs.calls.energies_agree.Goals as goal

pub returns-in_err-after : goal.returns-in_err-after
returns-in_err-after c =
    let h = too_few 842 8 _ _ c.in_ok-agrees.ensures.1 c.in_err-after.ensures in
    rw c.from_residual-in_err-after.ensures h

pub returns-then-agrees : goal.returns-then-agrees
returns-then-agrees c =
    let a = c.in_ok-agrees.ensures in
    let b = c.in_ok-after.ensures in
    energies_read c.args.reader.now _ _ _ _ _ _ _ a.0 a.1 b.0 b.1 c.numbers_same-same.ensures c.if-agrees.true

pub returns-else-agrees : goal.returns-else-agrees
returns-else-agrees c =
    let a = c.in_ok-agrees.ensures in
    let b = c.in_ok-after.ensures in
    energies_unread c.args.reader.now _ _ _ _ _ a.0 a.1 b.1 c.if-agrees.false
