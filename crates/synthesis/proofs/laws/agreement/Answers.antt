-- `agreement` meets its contract: the law, as it stands.
use Rattle.synthesis.proofs.Agree.{agree}
use Rattle.synthesis.proofs.laws.agreement.Goals as goal

pub returns : goal.returns
returns c = agree
