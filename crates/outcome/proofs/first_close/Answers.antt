-- `first_close` meets its contract: the position that the library finds is the place of the definition.
use Rattle.std.proofs.Common.{rules, tests, ◌∙◌, pos}
use Rattle.std.specs.Prelude.{Some}
use Rattle.std.proofs.lemmas.Iterator.{YieldsList-from_slice, YieldsList-from_zip}
use Rattle.std.proofs.lemmas.Iterator.Adapters.{YieldsList-from_once}
use Rattle.std.proofs.lemmas.Iterator.Consumers.{YieldsList-from_chain, YieldsList-from_copied}
use Rattle.std.proofs.lemmas.Iterator.Search.{position_from_yields_List}
use Rattle.outcome.proofs.Gaps.{close, close_found}
use Rattle.outcome.proofs.first_close.Goals as goal

pub returns : goal.returns
returns c =
    let xs = c.args.numbers.now in
    let gap = c.args.gap in
    let before = YieldsList-from_chain (YieldsList-from_once (Some (pos 0)) (rw (c.zip.ensures.first, c.chain.ensures.first) c.once.ensures.item)) (YieldsList-from_copied (YieldsList-from_slice xs cc)) (search rules) (search rules) in
    position_from_yields_List (close gap) c.position.new.self _ c.position.result c.position.ensures.ran (YieldsList-from_zip before (YieldsList-from_copied (YieldsList-from_slice xs cc))) (λ x b q k. search (rules, tests))
    ∙ close_found gap xs
