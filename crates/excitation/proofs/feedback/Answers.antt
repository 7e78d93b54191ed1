-- `excitation::feedback` meets its contract: each sample is the prediction's and the innovation's by their gains.
use Rattle.std.proofs.Common.{rules}
use Rattle.lists.proofs.Made.{made_pairwise}
use Rattle.excitation.specs.Excitation.{feedback_at, feedback}
use Rattle.excitation.proofs.feedback.Goals as goal

pub returns : goal.returns
unfolding feedback
returns c =
    made_pairwise _ _ (feedback_at c.args.pitch.0 c.args.code.0) c.args.adaptive c.args.innovation.0 c.from_fn.ensures.items (search rules) (search rules) (λ i q y h c. search rules)
