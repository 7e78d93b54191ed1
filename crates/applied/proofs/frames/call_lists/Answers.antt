-- The theorems of proofs/CallList.antt and proofs/Retries.antt and proofs/Calls.antt.
use Rattle.applied.proofs.CallList.{first_call, second_call, after_list}
use Rattle.applied.proofs.Retries.{index_retries, erased_retries}
use Rattle.applied.proofs.Calls.{calls_applied}
use Rattle.applied.proofs.frames.call_lists.Goals as goal

pub returns : goal.returns
returns c = record { first = first_call; second = second_call; after = after_list; index = index_retries; erased = erased_retries; laws = calls_applied }
