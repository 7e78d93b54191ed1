-- The theorems of proofs/Records.antt.
use Rattle.applied.proofs.Records.{reader_order, first_order, writer_order}
use Rattle.applied.proofs.outputs.record_orders.Goals as goal

pub returns : goal.returns
returns c = record { reader = reader_order; first = first_order; writer = writer_order }
