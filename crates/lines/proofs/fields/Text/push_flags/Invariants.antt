-- `Text::push_flags` meets its contract: after so many turns the digits of so many flags are put.
use Rattle.std.proofs.Common.{◌≡◌, ◌++◌, take, map}
use Rattle.lines.specs.Lines.{flag_digit}
use Rattle.lines.proofs.fields.Text.push_flags.Given as goal

abbrev pub invariant-loop-flag : goal.invariant-loop-flag
invariant-loop-flag g l = l.self ≡ l.initial.self ++ map flag_digit (take l.flag-index l.fn.flags)
