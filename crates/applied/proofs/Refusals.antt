-- The refusals of specs/Refusals.antt, computed from the definition; some of them, taken from those equations with the checks shut; and
-- `accepted_exactly`, applied.
use Rattle.std.proofs.Common.{◌≡◌, refl, ap, true, List, ◌∷◌, arith, ℤ, get_or}
use Rattle.outcome.specs.Outcome.{is_accepted}
use Rattle.outcome.specs.Checks.{first_met, first_outside, first_close}
use Rattle.state.specs.declared.State.{State}
use Rattle.state.specs.Layout.{core_of, post_of, concealment_of, state_of}
use Rattle.kinds.specs.Kind.{FrameSheet, frame_kind, call_outcome}
use Rattle.kinds.specs.Accepted.{GapsKept}
use Rattle.kinds.proofs.Accepted.{accepted_exactly}
use Rattle.applied.specs.Refusals.{Refusal, refused, ordered, FrameOrder, placed, Places, field_places, FieldPlaces, close, GapPlaces, RefusalsApplied}

pub frame_order : FrameOrder
unfolding ordered state_of core_of post_of concealment_of first_met first_outside first_close call_outcome
frame_order = refl

pub places : Places
unfolding placed state_of core_of post_of concealment_of first_met first_outside first_close call_outcome
places = refl

pub field_places_lem : FieldPlaces
unfolding field_places state_of core_of post_of concealment_of first_met first_outside first_close call_outcome
field_places_lem = refl

pub gap_places : GapPlaces
unfolding close state_of core_of post_of concealment_of first_met first_outside first_close call_outcome
gap_places = refl

frame_gaps : (sheet : List ℤ) (s : State) → is_accepted (call_outcome frame_kind sheet s 160) ≡ true → GapsKept sheet
frame_gaps sheet s h = ((accepted_exactly FrameSheet sheet s 160).shown h).gaps

pub refusals_applied : RefusalsApplied
unfolding ordered placed close
refusals_applied =
    record {
      room = ap (λ (rs : List Refusal). (get_or rs 1 (refused 0 0)).number) frame_order;
      gap = ap (λ (rs : List Refusal). (get_or rs 3 (refused 0 0)).number) frame_order;
      sheet = ap (λ (rs : List Refusal). (get_or rs 5 (refused 0 0)).number) frame_order;
      place = ap (λ (rs : List Refusal). (get_or rs 2 (refused 0 0)).place) places;
      gap_place = ap (λ (rs : List Refusal). (get_or rs 10 (refused 0 0)).place) gap_places;
      first = λ x y z rest s h. let g = frame_gaps (x ∷ y ∷ z ∷ rest) s h in (g.first, g.later 0 (omega arith), g.later 1 (omega arith));
      last = λ sheet s h. (frame_gaps sheet s h).later 8 (omega arith);
    }
