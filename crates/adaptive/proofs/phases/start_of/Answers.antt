-- `adaptive::start_of` meets its contract: fraction by fraction, 154 less the lag, and one less for a third more.
use Rattle.std.proofs.Common.{⊎_elim}
use Rattle.pitch.specs.declared.Fraction.TheVariants.{MinusThird, Zero, PlusThird}
use Rattle.adaptive.proofs.Places.{start_by}
use Rattle.adaptive.proofs.phases.start_of.Goals as goal

pub returns-in-MinusThird : goal.returns-in-MinusThird
returns-in-MinusThird c = ⊎_elim (start_by c.args.lag MinusThird c.requires) (start_by c.args.lag Zero c.requires) c.in-MinusThird.is

pub returns-in-PlusThird : goal.returns-in-PlusThird
returns-in-PlusThird c = start_by c.args.lag PlusThird c.requires (cc)
