-- `recorded::frame_agrees` meets its contract: each part is read where the one before ends.
use Rattle.std.proofs.Common.{arith, ◌<◌, length}
use Rattle.recorded.proofs.Rows.{too_few}
use Rattle.recorded.proofs.Frames.{frame_read}
use Rattle.recorded.proofs.calls.frame_agrees.Goals as goal

pub returns-in_err-places : goal.returns-in_err-places
returns-in_err-places c =
    let h : length c.args.reader.now < 328 = too_few 320 8 _ _ c.in_ok-samples.ensures.1 c.in_err-places.ensures in
    rw c.from_residual-in_err-places.ensures (omega (arith, h))

pub returns-in_err-rows : goal.returns-in_err-rows
returns-in_err-rows c =
    let h = too_few 8 88 _ _ c.in_ok-places.ensures.1 c.in_err-rows.ensures in
    let k : length c.args.reader.now < 416 = too_few 320 96 _ _ c.in_ok-samples.ensures.1 h in
    rw c.from_residual-in_err-rows.ensures (omega (arith, k))

pub returns-in_err-next : goal.returns-in_err-next
returns-in_err-next c =
    let h = too_few 88 426 _ _ c.in_ok-rows.ensures.1 c.in_err-next.ensures in
    let k = too_few 8 514 _ _ c.in_ok-places.ensures.1 h in
    let l = too_few 320 522 _ _ c.in_ok-samples.ensures.1 k in
    rw c.from_residual-in_err-next.ensures l

pub returns : goal.returns
returns c =
    let a = c.in_ok-samples.ensures in
    let b = c.in_ok-places.ensures in
    let d = c.in_ok-rows.ensures in
    let e = c.in_ok-next.ensures in
    frame_read c.args.reader.now _ _ _ _ _ _ _ _ _ _ a.0 a.1 b.0 b.1 d.0 d.1 e.0 e.1 c.is_given.ensures
