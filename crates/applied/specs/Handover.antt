-- The theorems of reader and writer together (record/specs/Handover.antt) applied to concrete records, their conclusions written out: of `read_back`
-- ReadApplied, of `same_outcome` TurnedBack, of `first_read` and `first_outcome` FirstApplied, of `same_rest` RestApplied, of `record_back`, `written_back` and
-- `read_formed` BackApplied; and the states that are accepted (state/specs/State.antt, InRange): AcceptedApplied. The theorems are in proofs/Handover.antt.
use Rattle.std.specs.Prelude.{◌≡◌, true, Ok, Err, List, [], ◌∷◌, ◌++◌, ℕ, ℤ, pos, length, take, drop, replicate, ◌≤ℤ◌}
use Rattle.lists.specs.Lists.{minus}
use Rattle.outcome.specs.declared.Refusal.TheVariants.{Sharpening, SmoothedGain, GainField, LastLag}
use Rattle.outcome.specs.Outcome.{is_accepted}
use Rattle.state.specs.declared.State.{State}
use Rattle.state.specs.State.{WellFormed, state_outcome}
use Rattle.state.specs.Layout.{numbers_of, state_of}
use Rattle.coding.specs.Body.{missing}
use Rattle.coding.specs.Bytes.{bytes_of}
use Rattle.record.specs.Record.{read_call, encoded}
use Rattle.calls.specs.Calls.{state_after}
use Rattle.applied.specs.Examples.{silent, calls}
use Rattle.applied.specs.Listing.{zero_record}

-- ---- what was written is read back
-- the record of the state `silent`: 426 bytes of body, zeros but for the last lag; the tag; version 2, distance 426, count 213
unfoldable pub silent_record : List ℕ
silent_record = replicate 394 0 ++ ((40 ∷ replicate 31 0) ++ (0x4D ∷ 0x37 ∷ 2 ∷ 0 ∷ 0xAA ∷ 1 ∷ 0xD5 ∷ 0 ∷ []))

abbrev pub note : List ℕ
note = 7 ∷ 0 ∷ 255 ∷ []

-- the state s is read from the record b, with the note n
pub record Read (b : List ℕ) (s : State) (n : List ℕ) : Type 0 where
  pub outcome : (read_call b).answer.outcome ≡ Ok tt
  pub state : (read_call b).answer.state ≡ s
  pub note : (read_call b).note ≡ n

pub record ReadApplied : Type 0 where
  pub written : encoded silent ≡ silent_record
  pub bare : Read silent_record silent []
  pub noted : Read (note ++ silent_record) silent note
  -- and the state after the calls of Examples.antt
  pub later : Read (note ++ encoded (state_after silent calls)) (state_after silent calls) note

-- ---- the record of a state is turned back by the check that turns the state back
-- as `silent` but for sharpening and smoothed gain
abbrev pub signal_with : ℤ → ℤ → List ℤ
signal_with sharpening gain = replicate 164 (pos 0) ++ (sharpening ∷ (replicate 31 (pos 0) ++ (gain ∷ [])))

unfoldable pub state_with : ℤ → ℤ → State
state_with sharpening gain = state_of (signal_with sharpening gain ++ missing)

-- zeros but for the last lag, the last good pair and the erased mark
abbrev pub losing_numbers : ℤ → ℤ → ℤ → ℤ → List ℤ
losing_numbers lag pitch code mark = replicate 197 (pos 0) ++ (lag ∷ (replicate 12 (pos 0) ++ (pitch ∷ code ∷ mark ∷ [])))

unfoldable pub state_losing : ℤ → ℤ → ℤ → ℤ → State
state_losing lag pitch code mark = state_of (losing_numbers lag pitch code mark)

-- 16, 17, 18, 19; 16 comes before 17, and 18 before 19; none
pub record TurnedBack : Type 0 where
  pub sharpening : (read_call (note ++ encoded (state_with (pos 13018) (pos 0)))).answer.outcome ≡ Err Sharpening
  pub gain : (read_call (encoded (state_with (pos 13017) (minus 1)))).answer.outcome ≡ Err SmoothedGain
  pub both : (read_call (encoded (state_with (minus 1) (minus 1)))).answer.outcome ≡ Err Sharpening
  pub neither : (read_call (note ++ encoded (state_with (pos 13017) (pos 32767)))).answer.outcome ≡ Ok tt
  pub good : (read_call (encoded (state_losing (pos 145) (pos 0) (minus 1) (pos 2)))).answer.outcome ≡ Err (GainField 211)
  pub mark : (read_call (note ++ encoded (state_losing (pos 145) (pos 0) (pos 0) (pos 2)))).answer.outcome ≡ Err (GainField 212)
  pub lag : (read_call (encoded (state_losing (pos 145) (pos 0) (pos 0) (pos 1)))).answer.outcome ≡ Err LastLag
  pub lost : (read_call (note ++ encoded (state_losing (pos 144) (pos 32767) (pos 32767) (pos 1)))).answer.outcome ≡ Ok tt

-- ---- a version 1 record (FirstRead, FirstOutcome): the record of zeros is read as `silent`, behind any note; one with another sharpening is turned
-- back by it
unfoldable pub first_record : ℤ → ℤ → List ℕ
first_record sharpening gain = bytes_of (signal_with sharpening gain) ++ (0x4D ∷ 0x37 ∷ 1 ∷ 0 ∷ 0x8A ∷ 1 ∷ 0xC5 ∷ 0 ∷ [])

pub record FirstApplied : Type 0 where
  pub zeros : first_record (pos 0) (pos 0) ≡ zero_record
  pub bare : Read zero_record silent []
  pub noted : Read (note ++ zero_record) silent note
  pub sharpening : (read_call (note ++ first_record (pos 13018) (minus 1))).answer.outcome ≡ Err Sharpening

-- ---- two records of the same state differ in their notes alone
abbrev pub RestApplied : Type 0
RestApplied = drop (length (read_call (note ++ silent_record)).note) (note ++ silent_record) ≡ drop (length (read_call silent_record).note) silent_record

-- ---- record to state to record: the note, and behind it what the writer makes of the state; of version 1 its 197 numbers and its trailer. What was read is
-- well-formed, and accepted
pub record BackApplied : Type 0 where
  pub written : (read_call (note ++ silent_record)).note ++ encoded (read_call (note ++ silent_record)).answer.state ≡ note ++ silent_record
  pub first :
      (read_call (note ++ zero_record)).note
      ++ (bytes_of (take 197 (numbers_of (read_call (note ++ zero_record)).answer.state)) ++ (0x4D ∷ 0x37 ∷ 1 ∷ 0 ∷ 0x8A ∷ 1 ∷ 0xC5 ∷ 0 ∷ []))
      ≡ note ++ zero_record
  pub formed : WellFormed (read_call (note ++ zero_record)).answer.state
  pub accepted : state_outcome (read_call (note ++ zero_record)).answer.state ≡ Ok tt

-- ---- the states that are accepted, both ways: of any sharpening and smoothed gain; of any last lag, last good pair and mark
pub record AcceptedApplied : Type 0 where
  pub signal : (x g : ℤ) → is_accepted (state_outcome (state_with x g)) ≡ true → (pos 0 ≤ℤ x) × ((x ≤ℤ pos 13017) × (pos 0 ≤ℤ g))
  pub signal_so : (x g : ℤ) → pos 0 ≤ℤ x → x ≤ℤ pos 13017 → pos 0 ≤ℤ g → state_outcome (state_with x g) ≡ Ok tt
  pub losing :
      (lag p c m : ℤ) → is_accepted (state_outcome (state_losing lag p c m)) ≡ true
      → (pos 19 ≤ℤ lag) × ((lag ≤ℤ pos 144) × ((pos 0 ≤ℤ p) × ((pos 0 ≤ℤ c) × ((pos 0 ≤ℤ m) × (m ≤ℤ pos 1)))))
  pub losing_so :
      (lag p c m : ℤ) → pos 19 ≤ℤ lag → lag ≤ℤ pos 144 → pos 0 ≤ℤ p → pos 0 ≤ℤ c → pos 0 ≤ℤ m → m ≤ℤ pos 1
      → state_outcome (state_losing lag p c m) ≡ Ok tt
