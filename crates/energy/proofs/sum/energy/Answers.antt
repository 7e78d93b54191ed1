-- `energy` meets its contract: the sum is at the limit where it is above 2147483646.
use Rattle.std.proofs.Common.{ap, ◌∙◌, w32}
use Rattle.lists.proofs.Signed.{got}
use Rattle.basicop.proofs.Tests.{less_yes, less_no}
use Rattle.energy.specs.Energy.{squares}
use Rattle.energy.proofs.Tests.{shift_back}
use Rattle.energy.proofs.Sums.{energy_again, energy_once}
use Rattle.energy.proofs.sum.energy.Goals as goal

pub returns-then-at_limit : goal.returns-then-at_limit
returns-then-at_limit c =
    got w32 c.squares.type_inv (c.squares.ensures ∙ ap squares c.quartered.ensures)
    ∙ energy_again c.args.samples (less_yes (rw (got w32 c.squares-sum.type_inv c.squares-sum.ensures) at c.if-at_limit.true))

pub returns : goal.returns
returns c =
    shift_back w32 4 c.squares-sum.type_inv c.squares-sum.ensures
    ∙ energy_once c.args.samples (less_no (rw (got w32 c.squares-sum.type_inv c.squares-sum.ensures) at c.if-at_limit.false))
