-- `first_state_in` meets its contract: the numbers of the body, and behind them those that it has not.
use Rattle.std.proofs.Common.{ap, ◌∙◌, List, ◌++◌, ℤ}
use Rattle.state.specs.Layout.{state_of}
use Rattle.coding.specs.Body.{missing}
use Rattle.coding.proofs.first_state_in.Goals as goal

pub returns : goal.returns
returns c = c.state_of.ensures.value ∙ ap state_of (c.joined.ensures ∙ ap (λ (xs : List ℤ). xs ++ missing) c.numbers_in-signal.ensures)
