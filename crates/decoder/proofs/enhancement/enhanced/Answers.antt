-- `decoder::enhanced` meets its contract: each sample is enhanced.
use Rattle.std.proofs.Common.{rules}
use Rattle.lists.proofs.Made.{made_pairwise}
use Rattle.decoder.specs.Enhance.{enhanced_at, enhanced}
use Rattle.decoder.proofs.enhancement.enhanced.Goals as goal

pub returns : goal.returns
unfolding enhanced
returns c =
    made_pairwise _ _ (enhanced_at c.args.doubled.0 c.args.pitch.0) c.args.feedback c.args.adaptive c.from_fn.ensures.items (search rules) (search rules) (λ i q y h c. search rules)
