-- The theorem of proofs/CallList.antt.
use Rattle.measure.proofs.CallList.{every_list_as_measured}
use Rattle.measure.proofs.laws.Goals as goal

pub returns : goal.returns
returns c = every_list_as_measured
