-- `retries` meets its contract: the law, as it stands.
use Rattle.decoder.proofs.Retry.{retry}
use Rattle.decoder.proofs.laws.retries.Goals as goal

pub returns : goal.returns
returns c = retry
