-- The theorems of proofs/Indexed.antt.
use Rattle.applied.proofs.Indexed.{indexed_values, indexed_applied, index_order, indexed_list}
use Rattle.applied.proofs.frames.index_frames.Goals as goal

pub returns : goal.returns
returns c = record { values = indexed_values; applied = indexed_applied; order = index_order; list = indexed_list }
