-- `as_table` meets its contract: 33 numbers, and neither search finds a place.
use Rattle.std.proofs.Common.{◌≡◌, refl, not, ◌&&◌}
use Rattle.gain.specs.Checks.{is_table}
use Rattle.gain.proofs.Kept.{table_tests, no_table}
use Rattle.gain.proofs.checks.as_table.Goals as goal
use Rattle.gain.proofs.checks.as_table.Goals.{After-is_some-falls, then-outside-via-then-outside, then-outside-via-else-outside+then-falls}

pub returns-in_err-table : goal.returns-in_err-table
returns-in_err-table c = rw c.from_residual.ensures (no_table c.args.numbers.now c.in_err-table.ensures.cases)

tests : (c : After-is_some-falls) → is_table c.args.numbers.now ≡ not c.is_some-outside.result && not c.is_some-falls.result
tests c =
    let whole = c.in_ok-table.ensures.cases in
    rw (c.is_some-outside.ensures, c.is_some-falls.ensures, c.first_outside.ensures, c.first_close.ensures, whole.same) (table_tests c.args.numbers.now whole.long)

pub returns-then-outside : goal.returns-then-outside
returns-then-outside c =
    elim c.then-outside.branch [
      | then-outside-via-then-outside w ↦ rw (tests c.before, w.if-outside.true) refl
      | then-outside-via-else-outside+then-falls w ↦ rw (tests c.before, w.if-outside.false, w.if-falls.true) refl
    ]

pub returns : goal.returns
returns c = (rw (tests c.before.before, c.if-outside.false, c.if-falls.false) refl, c.in_ok-table.ensures.cases.same)
