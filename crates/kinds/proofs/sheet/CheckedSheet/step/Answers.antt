-- `CheckedSheet::step` meets its contract: the innovation is the last 160 numbers', forty for the subframe.
use Rattle.std.proofs.Common.{arith, length}
use Rattle.kinds.specs.Checked.{checked_kind}
use Rattle.kinds.proofs.Passed.{long_of}
use Rattle.kinds.proofs.sheet.CheckedSheet.step.Goals as goal

pub overflow_sub-first : goal.overflow_sub-first
overflow_sub-first c = let a = c.args.self in omega (arith, long_of (checked_kind a.kind) (length a.numbers.now) a.count)

pub stretch-requires : goal.stretch-requires
stretch-requires c = let a = c.args.self in omega (arith, long_of (checked_kind a.kind) (length a.numbers.now) a.count)
