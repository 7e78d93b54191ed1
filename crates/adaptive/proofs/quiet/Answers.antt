-- `adaptive::quiet` meets its contract: a fold of the tests of the numbers.
use Rattle.std.proofs.Common.{true, not, ◌&&◌, rules}
use Rattle.std.proofs.lemmas.Iterator.{YieldsList-from_slice}
use Rattle.std.proofs.lemmas.Iterator.Consumers.{fold_from_yields_List}
use Rattle.adaptive.specs.Inner.{large, quiet}
use Rattle.adaptive.proofs.quiet.Goals as goal

pub returns : goal.returns
unfolding quiet
returns c = fold_from_yields_List _ (λ none x. none && not (large x)) true _ c.fold.ensures.ran (YieldsList-from_slice c.args.history cc) (λ a x b q c. search rules)
