-- The theorems of proofs/Accepted.antt and proofs/GainLaws.antt.
use Rattle.kinds.proofs.Accepted.{accepted_exactly}
use Rattle.kinds.proofs.GainLaws.{own_gains, index_call_gains, index_energies, erased_gains}
use Rattle.kinds.proofs.laws.Goals as goal

pub returns : goal.returns
returns c =
    record { accepted = accepted_exactly; own_gains = own_gains; index_call_gains = index_call_gains; index_energies = index_energies; erased_gains = erased_gains }
