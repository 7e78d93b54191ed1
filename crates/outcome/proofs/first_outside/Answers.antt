-- `first_outside` meets its contract: the position that the library finds is the place of the definition.
use Rattle.std.proofs.Common.{rules, tests, ◌∙◌}
use Rattle.std.proofs.lemmas.Iterator.{YieldsList-from_slice, YieldsList-from_zip}
use Rattle.std.proofs.lemmas.Iterator.Search.{position_from_yields_List}
use Rattle.outcome.proofs.Ranges.{outside, position_found}
use Rattle.outcome.proofs.first_outside.Goals as goal

pub returns : goal.returns
returns c =
    let xs = c.args.numbers.now in
    let limits = c.args.limits.now in
    position_from_yields_List outside c.position.new.self _ c.position.result c.position.ensures.ran (YieldsList-from_zip (YieldsList-from_slice xs cc) (YieldsList-from_slice limits cc)) (λ x b q k. search (rules, tests))
    ∙ position_found xs limits c.requires
