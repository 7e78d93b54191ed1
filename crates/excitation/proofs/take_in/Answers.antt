-- `excitation::take_in` meets its contract: the past from its number 40 on, and the subframe.
use Rattle.std.proofs.Common.{rules, ap, ◌∙◌, ◌++◌}
use Rattle.lists.proofs.Entries.{stretch_end}
use Rattle.excitation.proofs.take_in.Goals as goal

pub returns : goal.returns
returns c = c.joined.ensures ∙ ap (λ p. p ++ c.args.feedback) (stretch_end c.args.past 40 114 (search rules))
