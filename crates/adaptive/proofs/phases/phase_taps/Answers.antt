-- `adaptive::phase_taps` meets its contract: each call gives the tap of its place.
use Rattle.std.proofs.Common.{rules}
use Rattle.lists.proofs.Made.{made_tab}
use Rattle.adaptive.specs.Inner.{tap}
use Rattle.adaptive.proofs.phases.phase_taps.Goals as goal

pub returns : goal.returns
returns c = made_tab _ _ (tap c.args.phase) c.from_fn.ensures.items (λ i q y h c. search rules)
