-- The theorems of proofs/Promised.antt.
use Rattle.applied.proofs.Promised.{own_applied, index_gains_applied, sharpening_applied, answers_applied, next_applied}
use Rattle.applied.proofs.frames.promises.Goals as goal

pub returns : goal.returns
returns c = record { own = own_applied; index = index_gains_applied; sharpening = sharpening_applied; answers = answers_applied; next = next_applied }
