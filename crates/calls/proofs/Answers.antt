-- What a call gives is a projection of its trace: `AnswersTraced`.
use Rattle.std.proofs.Common.{refl, sym}
use Rattle.mr74.specs.Frame.{index_call, erased_call}
use Rattle.mr74.specs.Inner.{kind_call}
use Rattle.mr74.proofs.Answers.{frame_is}
use Rattle.calls.specs.Calls.{AnswersTraced}

pub answers_traced : AnswersTraced
unfolding kind_call index_call erased_call
answers_traced logs pows energies sheet s out = record { frame = sym (frame_is energies sheet s out); index = refl; erased = refl }
