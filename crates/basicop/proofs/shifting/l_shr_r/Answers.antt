-- `l_shr_r` meets its contract: the bit added is the difference of two shifts.
use Rattle.std.proofs.Common.{◌≡◌, ◌∙◌, ◌-◌, nat_abs, w32, to_z, of_z, to_z-of_z}
use Rattle.lists.proofs.Signed.{got}
use Rattle.basicop.specs.Ops.{asr}
use Rattle.basicop.proofs.Counts.{l_shr_r_none, l_shr_r_far, Rounded, l_shr_r_is}
use Rattle.basicop.proofs.Tests.{less_yes, less_no, at_most_yes, at_most_no}
use Rattle.basicop.proofs.shifting.l_shr_r.Goals as goal
use Rattle.basicop.proofs.shifting.l_shr_r.Goals.{After-right, After-right-then-n-lt32, Then-n-lt32}

pub returns-then-n-le0 : goal.returns-then-n-le0
returns-then-n-le0 c =
    got w32 c.l_shr.type_inv
    (rw (to_z-of_z c.ranges.x, to_z-of_z c.ranges.n) at c.l_shr.ensures ∙ l_shr_r_none c.args.x c.args.n (at_most_yes (rw (to_z-of_z c.ranges.n) at c.if-n-le0.true)))

pub returns-else-n-lt32 : goal.returns-else-n-lt32
returns-else-n-lt32 c = l_shr_r_far c.args.x c.args.n (less_no (rw (to_z-of_z c.ranges.n) at c.if-n-lt32.false))

rounded : (c : Then-n-lt32) → Rounded c.args.x c.args.n
rounded c =
    let n = to_z-of_z c.ranges.n in
    l_shr_r_is c.args.x c.args.n c.ranges.x (at_most_no _ _ (rw n at c.if-n-le0.false)) (less_yes (rw n at c.if-n-lt32.true))

-- the two shifts, read back
first : (c : After-right) → to_z w32 (of_z w32 c.right.result) ≡ asr c.args.x (nat_abs c.args.n - 1)
first c = rw (c.unsigned_abs-count.ensures.value, to_z-of_z c.ranges.x, to_z-of_z c.ranges.n) at (got w32 c.right.type_inv c.right.ensures)

second : (c : After-right-then-n-lt32) → to_z w32 (of_z w32 c.right-then-n-lt32.result) ≡ asr c.args.x (nat_abs c.args.n)
second c = rw (c.unsigned_abs-count.ensures.value, to_z-of_z c.ranges.x, to_z-of_z c.ranges.n) at (got w32 c.right-then-n-lt32.type_inv c.right-then-n-lt32.ensures)

pub overflow_sub-result : goal.overflow_sub-result
overflow_sub-result c = rw (first c.before, second c) (rounded c.before.before.before).fits

pub returns-then-n-lt32 : goal.returns-then-n-lt32
returns-then-n-lt32 c = to_z-of_z (overflow_sub-result c) ∙ rw (first c.before, second c) (rounded c.before.before.before).is
