-- The theorems of proofs/Handover.antt.
use Rattle.applied.proofs.Handover.{read_applied, turned_back, first_applied, rest_applied, back_applied, accepted_applied}
use Rattle.applied.proofs.outputs.handovers.Goals as goal

pub returns : goal.returns
returns c = record { read = read_applied; turned = turned_back; first = first_applied; rest = rest_applied; back = back_applied; accepted = accepted_applied }
