-- `Reader::rows` meets its contract: each row is read where the one before ends.
use Rattle.std.proofs.Common.{arith, ◌<◌, length}
use Rattle.recorded.proofs.Rows.{four_rows, too_few}
use Rattle.recorded.proofs.words.Reader.rows.Goals as goal

pub returns : goal.returns
returns c =
    let a = c.in_ok-numbers.ensures in
    let b = c.in_ok-numbers-2.ensures in
    let d = c.in_ok-numbers-3.ensures in
    let e = c.in_ok-numbers-4.ensures in
    four_rows c.args.self.now _ _ _ _ _ _ _ _ a.0 a.1 b.0 b.1 d.0 d.1 e.0 e.1

pub returns-in_err-numbers-3 : goal.returns-in_err-numbers-3
returns-in_err-numbers-3 c =
    let r = c.args.self.now in
    let h = too_few 22 22 _ _ c.in_ok-numbers-2.ensures.1 c.in_err-numbers-3.ensures in
    let k : length r < 66 = too_few 22 44 _ _ c.in_ok-numbers.ensures.1 h in
    rw c.from_residual-in_err-numbers-3.ensures (omega (arith, k))

pub returns-in_err-numbers-4 : goal.returns-in_err-numbers-4
returns-in_err-numbers-4 c =
    let r = c.args.self.now in
    let h = too_few 22 22 _ _ c.in_ok-numbers-3.ensures.1 c.in_err-numbers-4.ensures in
    let k = too_few 22 44 _ _ c.in_ok-numbers-2.ensures.1 h in
    let l : length r < 88 = too_few 22 66 _ _ c.in_ok-numbers.ensures.1 k in
    rw c.from_residual-in_err-numbers-4.ensures l
