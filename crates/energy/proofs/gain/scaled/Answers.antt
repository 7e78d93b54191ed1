-- `scaled` meets its contract: each sample is scaled.
use Rattle.std.proofs.Common.{rules}
use Rattle.lists.proofs.Made.{made_map}
use Rattle.energy.specs.Gain.{scaled_by}
use Rattle.energy.proofs.gain.scaled.Goals as goal

pub returns : goal.returns
returns c = made_map _ _ (scaled_by c.args.gain.0) c.args.samples c.from_fn.ensures.items (search rules) (λ i q y h c. search rules)
