-- `refused` meets its contract: the numbers of zero bytes are zeros.
use Rattle.std.proofs.Common.{ap}
use Rattle.std.specs.Prelude.{Err}
use Rattle.state.specs.declared.State.{State}
use Rattle.record.specs.declared.Answer.{Answer}
use Rattle.coding.specs.Bytes.{words}
use Rattle.record.proofs.refused.Goals as goal

pub returns : goal.returns
unfolding words
returns c = ap (λ (s : State). let a : Answer = record { outcome = Err c.args.refusal; state = s } in a) c.state_in.ensures
