-- The reader's checks and its definition, case by case.
use Rattle.std.proofs.Common.{◌≡◌, refl, ap, ap₂, sym, ◌∙◌, Bool, true, false, cond, List, [], ◌++◌, ℕ, ◌+◌, ◌-◌, ◌≤◌, ◌<◌, arith, length, take, drop, ltb, length-take-le, ltb-false, lt-ltb, le-ltb}
use Rattle.std.specs.Prelude.{Ok, Err}
use Rattle.std.proofs.lemmas.List.{drop-take}
use Rattle.outcome.specs.declared.Refusal.{Refusal}
use Rattle.outcome.specs.declared.Refusal.TheVariants.{RecordShort, BodyShort}
use Rattle.outcome.specs.Outcome.{Outcome, is_accepted}
use Rattle.outcome.specs.Checks.{Check, first_met}
use Rattle.outcome.proofs.Variants.{never_accepted}
use Rattle.outcome.proofs.Checks.{met, unmet, none_left, accepted_here, refused_first, both_accept, none_met}
use Rattle.state.specs.declared.State.{State}
use Rattle.state.specs.State.{state_checks}
use Rattle.state.specs.Layout.{state_of}
use Rattle.coding.specs.Bytes.{words}
use Rattle.record.specs.declared.Answer.{Answer}
use Rattle.record.specs.Record.{Trailer, versions, trailer_of, field_at, end_of, trailer_in, distance_of, note_length, note_of, numbers_in, size_checks, trailer_checks, body_checks, byte_checks, record_outcome, zero_state, refused_answer, read_result, read_call}

-- ---- the body, of a version
pub body_there : (before distance : ℕ) → is_accepted (first_met (body_checks before distance)) ≡ true → distance ≤ before
body_there before distance h = ltb-false before distance (none_met (body_checks before distance) h).0

pub body_short : (before distance : ℕ) → before < distance → first_met (body_checks before distance) ≡ Err BodyShort
body_short before distance h = sym (met (ltb before distance) BodyShort [] (lt-ltb before distance h))

pub body_found : (before distance : ℕ) → distance ≤ before → first_met (body_checks before distance) ≡ Ok tt
body_found before distance h = sym (none_left ∙ unmet (ltb before distance) BodyShort [] (le-ltb before distance h))

-- ---- what the checks of the bytes come to
module _ (b : List ℕ) where
  abbrev last : List Check
  last = body_checks (length b - 8) (distance_of b)

  pub record_short : length b < 8 → first_met (byte_checks b) ≡ Err RecordShort
  record_short h = sym (met (ltb (length b) 8) RecordShort _ (lt-ltb (length b) 8 h))

  module _ (h : 8 ≤ length b) where
    after_size : first_met (trailer_checks (end_of b) ++ last) ≡ first_met (byte_checks b)
    after_size = unmet (ltb (length b) 8) RecordShort (trailer_checks (end_of b) ++ last) (le-ltb (length b) 8 h)

    pub trailer_refused : {r : Refusal} → first_met (trailer_checks (end_of b)) ≡ Err r → first_met (byte_checks b) ≡ Err r
    trailer_refused a = sym (refused_first (trailer_checks (end_of b)) last (sym a) ∙ after_size)

    -- the last 8 bytes are a right trailer, t is its version's, and `before` is what stands before it
    module _ (end : List ℕ) (o : end ≡ end_of b) (a : first_met (trailer_checks end) ≡ Ok tt) (t : Trailer) (u : trailer_of (field_at end 2) versions ≡ t) (before : List ℕ) (f : before ≡ take (length b - 8) b) where
      right : Ok tt ≡ first_met (trailer_checks (end_of b))
      right = sym a ∙ ap (λ (l : List ℕ). first_met (trailer_checks l)) o

      e : trailer_in b ≡ t
      e = ap (λ (l : List ℕ). trailer_of (field_at l 2) versions) (sym o) ∙ u

      before_length : length before ≡ length b - 8
      before_length = ap length f ∙ length-take-le (length b - 8) b (omega arith)

      pub body_decides : first_met (body_checks (length before) t.distance) ≡ first_met (byte_checks b)
      body_decides =
          ap₂ (λ (n : ℕ) (v : Trailer). first_met (body_checks n v.distance)) before_length (sym e)
          ∙ accepted_here (trailer_checks (end_of b)) last right ∙ after_size

      pub note_before : length before - t.distance ≡ note_length b
      note_before = ap₂ (λ (n : ℕ) (v : Trailer). n - v.distance) before_length (sym e)

      pub numbers_before : first_met (body_checks (length before) t.distance) ≡ Ok tt → words (drop (length before - t.distance) before) ++ t.missing ≡ numbers_in b
      numbers_before y =
          let d : t.distance ≤ length b - 8 = rw before_length at (body_there (length before) t.distance (ap is_accepted y)) in
          let m : length b - 8 ≡ length b - 8 - t.distance + t.distance = omega arith in
          ap₂ (λ (n : ℕ) (l : List ℕ). words (drop (n - t.distance) l) ++ t.missing) before_length (f ∙ ap (λ (n : ℕ). take n b) m)
          ∙ ap (λ (l : List ℕ). words l ++ t.missing) (drop-take (length b - 8 - t.distance) t.distance b)
          ∙ ap (λ (v : Trailer). words (take v.distance (drop (length b - 8 - v.distance) b)) ++ v.missing) (sym e)

-- ---- what their acceptance says
module _ (b : List ℕ) where
  module _ (y : is_accepted (first_met (byte_checks b)) ≡ true) where
    groups : (8 ≤ length b) × ((is_accepted (first_met (trailer_checks (end_of b))) ≡ true) × (distance_of b ≤ length b - 8))
    groups =
        let a = both_accept (size_checks (length b)) (trailer_checks (end_of b) ++ body_checks (length b - 8) (distance_of b)) y in
        let c = both_accept (trailer_checks (end_of b)) (body_checks (length b - 8) (distance_of b)) a.1 in
        (ltb-false (length b) 8 (none_met (size_checks (length b)) a.0).0, (c.0, body_there (length b - 8) (distance_of b) c.1))

    pub trailer_accepted : is_accepted (first_met (trailer_checks (end_of b))) ≡ true
    trailer_accepted = groups.1.0

    -- note, body and trailer are the record
    pub whole : length b ≡ note_length b + (distance_of b + 8)
    whole = omega (arith, groups.0, groups.1.1)

  -- then the state decides
  pub state_decides : first_met (byte_checks b) ≡ Ok tt → {s : State} → s ≡ state_of (numbers_in b) → record_outcome b ≡ first_met (state_checks s)
  unfolding record_outcome
  state_decides a e = sym (accepted_here (byte_checks b) (state_checks (state_of (numbers_in b))) (sym a)) ∙ ap (λ (s : State). first_met (state_checks s)) (sym e)

  pub bytes_decide : {r : Refusal} → first_met (byte_checks b) ≡ Err r → record_outcome b ≡ Err r
  unfolding record_outcome
  bytes_decide a = sym (refused_first (byte_checks b) (state_checks (state_of (numbers_in b))) (sym a))

  pub bytes_accepted : is_accepted (record_outcome b) ≡ true → is_accepted (first_met (byte_checks b)) ≡ true
  unfolding record_outcome
  bytes_accepted y = (both_accept (byte_checks b) (state_checks (state_of (numbers_in b))) y).0

  pub state_passes : is_accepted (record_outcome b) ≡ true → is_accepted (first_met (state_checks (state_of (numbers_in b)))) ≡ true
  unfolding record_outcome
  state_passes y = (both_accept (byte_checks b) (state_checks (state_of (numbers_in b))) y).1

  -- ---- the call, of what its outcome is found to be
  pub read_refused : {r : Refusal} → record_outcome b ≡ Err r → {a : Answer} → a ≡ refused_answer (Err r) → read_result a [] ≡ read_call b
  unfolding read_call
  read_refused {r} e {a} f = rw (e, never_accepted r, f)

  pub read_accepted : record_outcome b ≡ Ok tt → {s : State} → s ≡ state_of (numbers_in b) → {n : ℕ} → n ≡ note_length b → read_result (record { outcome = Ok tt; state = s }) (take n b) ≡ read_call b
  unfolding read_call
  read_accepted e f g = rw (e, f, g)

  module _ (y : is_accepted (record_outcome b) ≡ true) where
    pub state_accepted : state_of (numbers_in b) ≡ (read_call b).answer.state
    unfolding read_call
    state_accepted = rw y

    pub note_accepted : note_of b ≡ (read_call b).note
    unfolding read_call
    note_accepted = rw y

outcome_of : (t : Bool) (o : Outcome) (r s : State) (m n : List ℕ) → (cond t (read_result (record { outcome = o; state = r }) m) (read_result (record { outcome = o; state = s }) n)).answer.outcome ≡ o
outcome_of true o r s m n = refl
outcome_of false o r s m n = refl

pub outcome_is : (b : List ℕ) → (read_call b).answer.outcome ≡ record_outcome b
unfolding read_call
outcome_is b = outcome_of (is_accepted (record_outcome b)) (record_outcome b) (state_of (numbers_in b)) zero_state (note_of b) []
