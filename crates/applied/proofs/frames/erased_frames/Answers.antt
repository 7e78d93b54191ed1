-- The theorems of proofs/Erased.antt.
use Rattle.applied.proofs.Erased.{erased_values, erased_order, erased_applied, held_indexed, erased_list}
use Rattle.applied.proofs.frames.erased_frames.Goals as goal

pub returns : goal.returns
returns c = record { values = erased_values; order = erased_order; applied = erased_applied; held = held_indexed; list = erased_list }
