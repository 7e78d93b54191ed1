-- The call of its kind: a frame sheet's goes by no energies.
use Rattle.mr74.proofs.Answers.{frame_answer}
use Rattle.mr74.proofs.frame.Goals as goal

pub returns : goal.returns
returns c = let a = c.args in frame_answer _ a.sheet.now a.state a.out.now c.call.ensures
