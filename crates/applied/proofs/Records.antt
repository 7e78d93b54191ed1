-- The reader's and the writer's orders, computed from the definition.
use Rattle.std.proofs.Common.{refl}
use Rattle.outcome.specs.Checks.{first_met, first_outside}
use Rattle.state.specs.Layout.{core_of, post_of, concealment_of, state_of}
use Rattle.coding.specs.Bytes.{words}
use Rattle.record.specs.Record.{record_outcome, write_call}
use Rattle.applied.specs.Records.{current_ordered, ReaderOrder, first_ordered, FirstOrder, write_ordered, WriterOrder}

pub reader_order : ReaderOrder
unfolding current_ordered record_outcome first_met first_outside words state_of core_of post_of concealment_of
reader_order = refl

pub first_order : FirstOrder
unfolding first_ordered record_outcome first_met first_outside words state_of core_of post_of concealment_of
first_order = refl

pub writer_order : WriterOrder
unfolding write_ordered write_call first_met first_outside state_of core_of post_of concealment_of
writer_order = refl
