-- `mr74::decode` meets its contract: core and postfilter put together are the accepted call's answer and samples.
use Rattle.kinds.specs.Inner.{prepared_of}
use Rattle.mr74.proofs.Answers.{decoded_are}
use Rattle.mr74.proofs.decode.Goals as goal

pub returns : goal.returns
returns c = decoded_are (prepared_of c.args.prepared) c.args.state c.decode.ensures c.process.ensures
