-- `adaptive::predict` meets its contract: what comes after the history.
use Rattle.std.proofs.Common.{ap, ◌∙◌, rules, drop}
use Rattle.lists.proofs.Entries.{stretch_end}
use Rattle.adaptive.specs.Predict.{predicted}
use Rattle.adaptive.proofs.predict.Goals as goal

pub returns : goal.returns
unfolding predicted
returns c = c.stretch.ensures ∙ stretch_end c.extended.result 154 40 (search rules) ∙ ap (drop 154) c.extended.ensures
