-- The theorems of proofs/Refusals.antt.
use Rattle.applied.proofs.Refusals.{frame_order, places, field_places_lem, gap_places, refusals_applied}
use Rattle.applied.proofs.frames.refused_frames.Goals as goal

pub returns : goal.returns
returns c = record { order = frame_order; places = places; fields = field_places_lem; gaps = gap_places; applied = refusals_applied }
