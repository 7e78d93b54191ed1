-- The theorems of proofs/Indexed.antt, proofs/Sharpening.antt and proofs/Divisions.antt.
use Rattle.mr74.proofs.Indexed.{index_is_frame}
use Rattle.mr74.proofs.Sharpening.{sharpening_is_core}
use Rattle.mr74.proofs.Divisions.{divisions_of_inputs, every_division}
use Rattle.mr74.proofs.laws.Goals as goal

pub returns : goal.returns
returns c = record { index = index_is_frame; sharpening = sharpening_is_core; inputs = divisions_of_inputs; divisions = every_division }
