-- Reader and writer together: the statements of specs/Handover.antt.
use Rattle.std.proofs.Common.{◌≡◌, refl, subst, take_all, ap, ap₂, sym, ◌∙◌, true, List, [], ◌++◌, append_assoc, append-nil, ℕ, ◌+◌, ◌-◌, arith, ltb, ℤ, length, take, drop, length-append, take_at, drop_at, le-ltb}
use Rattle.std.specs.Prelude.{Ok}
use Rattle.basicop.specs.Words.{Words}
use Rattle.outcome.specs.declared.Refusal.TheVariants.{RecordShort}
use Rattle.outcome.specs.Outcome.{is_accepted}
use Rattle.outcome.specs.Checks.{first_met}
use Rattle.outcome.proofs.Checks.{unmet, passed}
use Rattle.state.specs.declared.State.{State}
use Rattle.state.specs.State.{WellFormed, state_checks, state_outcome}
use Rattle.state.specs.Layout.{numbers_of, state_of}
use Rattle.state.proofs.Numbers.{state_of_numbers, numbers_words}
use Rattle.state.proofs.Taken.{numbers_well_formed}
use Rattle.state.proofs.Checks.{in_range, in_range_accepted}
use Rattle.coding.specs.Bytes.{words, bytes_of}
use Rattle.record.specs.Record.{Trailer, current, first, versions, trailer_of, field_at, end_of, trailer_in, distance_of, note_length, numbers_in, trailer_checks, body_checks, byte_checks, record_outcome, read_result, read_call, trailer_bytes, encoded}
use Rattle.record.specs.Handover.{ReadBack, SameOutcome, FirstRead, FirstOutcome, SameRest, rest_by, RecordBack, WrittenBack, ReadFormed}
use Rattle.coding.proofs.Bytes.{words_back}
use Rattle.record.proofs.Trailers.{Readable, current_readable, first_readable}
use Rattle.record.proofs.Reader.{body_found, state_passes, outcome_is, state_accepted}
use Rattle.coding.proofs.Laid.{bytes_length}
use Rattle.record.proofs.Writer.{trailer_length}
use Rattle.record.proofs.Rest.{rest_is, record_is, numbers_fit}

-- ---- a note, numbers and the trailer of a version
module _ (t : Trailer) (version : Readable t) (xs : List ℤ) (w : Words t.count xs) (note : List ℕ) where
  abbrev body : List ℕ
  body = bytes_of xs

  abbrev b : List ℕ
  b = note ++ (body ++ trailer_bytes t)

  abbrev s : State
  s = state_of (xs ++ t.missing)

  body_length_lem : length body ≡ t.distance
  body_length_lem = omega (arith, bytes_length xs, w.count, version.twice)

  total : length b ≡ length note + (t.distance + 8)
  total = omega (arith, length-append note (body ++ trailer_bytes t), length-append body (trailer_bytes t), body_length_lem, trailer_length t)

  at_trailer : end_of b ≡ trailer_bytes t
  at_trailer =
      ap (drop (length b - 8)) (sym (append_assoc note body (trailer_bytes t)))
      ∙ drop_at (note ++ body) (trailer_bytes t) (length b - 8) (omega (arith, length-append note body, body_length_lem, total))

  trailer_right : is_accepted (first_met (trailer_checks (end_of b))) ≡ true
  trailer_right = ap (λ (e : List ℕ). is_accepted (first_met (trailer_checks e))) at_trailer ∙ version.right

  trailer_here : trailer_in b ≡ t
  trailer_here = ap (λ (e : List ℕ). trailer_of (field_at e 2) versions) at_trailer ∙ version.found

  distance : distance_of b ≡ t.distance
  distance = ap (λ (v : Trailer). v.distance) trailer_here

  note_is : note_length b ≡ length note
  note_is = omega (arith, distance, total)

  at_body : take (distance_of b) (drop (note_length b) b) ≡ body
  at_body =
      ap₂ (λ (i j : ℕ). take i (drop j b)) distance note_is
      ∙ ap (take t.distance) (drop_at note (body ++ trailer_bytes t) (length note) refl)
      ∙ take_at body (trailer_bytes t) t.distance body_length_lem

  state_is : state_of (numbers_in b) ≡ s
  state_is = ap state_of (ap₂ ◌++◌ (ap words at_body ∙ words_back xs w.fit) (ap (λ (v : Trailer). v.missing) trailer_here))

  bytes_right : is_accepted (first_met (byte_checks b)) ≡ true
  bytes_right =
      let body-there = body_found (length b - 8) (distance_of b) (omega (arith, distance, total)) in
      let trailer-there = passed (trailer_checks (end_of b)) (body_checks (length b - 8) (distance_of b)) trailer_right in
      let size-there = unmet (ltb (length b) 8) RecordShort (trailer_checks (end_of b) ++ body_checks (length b - 8) (distance_of b)) (le-ltb (length b) 8 (omega (arith, total))) in
      ap is_accepted (sym (sym body-there ∙ trailer-there ∙ size-there))

  outcome_same : record_outcome b ≡ state_outcome s
  unfolding record_outcome state_outcome
  outcome_same = sym (passed (byte_checks b) (state_checks (state_of (numbers_in b))) bytes_right) ∙ ap (λ (r : State). first_met (state_checks r)) state_is

  back : state_outcome s ≡ Ok tt → read_call b ≡ read_result (record { outcome = Ok tt; state = s }) note
  unfolding read_call
  back a =
      rw (outcome_same ∙ a)
      (λ i. read_result (record { outcome = Ok tt; state = state_is i }) ((ap (λ (n : ℕ). take n b) note_is ∙ take_at note (body ++ trailer_bytes t) (length note) refl) i))

-- ---- version 2: the record of a well-formed state
written_state : (s : State) → WellFormed s → state_of (numbers_of s ++ []) ≡ s
written_state s w = ap state_of (append-nil (numbers_of s)) ∙ state_of_numbers s w

pub read_back : ReadBack
unfolding encoded
read_back s w a note =
    let e = written_state s w in
    back current current_readable (numbers_of s) (numbers_words s w) note (ap state_outcome e ∙ a) ∙ ap (λ (r : State). read_result (record { outcome = Ok tt; state = r }) note) e

pub same_outcome : SameOutcome
unfolding encoded
same_outcome s w note =
    outcome_is (note ++ encoded s) ∙ outcome_same current current_readable (numbers_of s) (numbers_words s w) note ∙ ap state_outcome (written_state s w)

-- ---- version 1
pub first_read : FirstRead
first_read xs w a note = back first first_readable xs w note a

pub first_outcome : FirstOutcome
first_outcome xs w note = outcome_is (note ++ (bytes_of xs ++ trailer_bytes first)) ∙ outcome_same first first_readable xs w note

-- ---- either
pub same_rest : SameRest
same_rest b c bytes bytes' y y' v e =
    rest_is b bytes (rw (outcome_is b) at y) ∙ ap₂ (λ (n : ℕ) (s : State). rest_by (trailer_of n versions) s) v e ∙ sym (rest_is c bytes' (rw (outcome_is c) at y'))

-- ---- records and the states in them
pub record_back : RecordBack
record_back b bytes y = record_is b bytes (rw (outcome_is b) at y)

pub read_formed : ReadFormed
read_formed b bytes y =
    let a = rw (outcome_is b) at y in
    let s = state_of (numbers_in b) in
    let passes = in_range_accepted s (in_range s (state_passes b a)) in (
      subst WellFormed (state_accepted b a) (numbers_well_formed (numbers_in b) (numbers_fit b bytes a)),
      subst (λ (r : State). state_outcome r ≡ Ok tt) (state_accepted b a) passes,
    )

pub written_back : WrittenBack
unfolding encoded
written_back b bytes y v =
    let r = read_call b in
    let s = r.answer.state in
    let all : take 213 (numbers_of s) ≡ numbers_of s = let n = (numbers_words s (read_formed b bytes y).0).count in take_all 213 (numbers_of s) (omega (arith, n)) in
    ap (λ (xs : List ℤ). r.note ++ (bytes_of xs ++ trailer_bytes current)) (sym all)
    ∙ ap (λ (n : ℕ). r.note ++ rest_by (trailer_of n versions) s) (sym v)
    ∙ record_back b bytes y
