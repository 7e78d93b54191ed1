-- `adaptive::phase_of` meets its contract: fraction by fraction, the constant is the phase.
use Rattle.pitch.specs.declared.Fraction.TheVariants.{MinusThird, Zero, PlusThird}
use Rattle.adaptive.proofs.Places.{phase_by}
use Rattle.adaptive.proofs.phases.phase_of.Goals as goal

pub returns-in-MinusThird-clause-value : goal.returns-in-MinusThird-clause-value
returns-in-MinusThird-clause-value c = phase_by c.args.lag MinusThird (cc)

pub returns-in-Zero-clause-value : goal.returns-in-Zero-clause-value
returns-in-Zero-clause-value c = phase_by c.args.lag Zero (cc)

pub returns-in-PlusThird-clause-value : goal.returns-in-PlusThird-clause-value
returns-in-PlusThird-clause-value c = phase_by c.args.lag PlusThird (cc)
