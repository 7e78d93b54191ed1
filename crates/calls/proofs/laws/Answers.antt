-- The theorems of proofs/Calls.antt.
use Rattle.calls.proofs.Calls.{next_accepted, next_well_formed}
use Rattle.calls.proofs.Answers.{answers_traced}
use Rattle.calls.proofs.laws.Goals as goal

pub returns : goal.returns
returns c = record { accepted = next_accepted; well_formed = next_well_formed; traced = answers_traced }
