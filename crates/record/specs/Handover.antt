-- What holds of reader and writer together (docs/BENCH.md, "Record"): `round_trips` ensures it.
use Rattle.std.specs.Prelude.{◌≡◌, Ok, true, List, ◌++◌, ℕ, ℤ, length, take, drop}
use Rattle.basicop.specs.Words.{Words}
use Rattle.outcome.specs.Outcome.{is_accepted}
use Rattle.state.specs.declared.State.{State}
use Rattle.state.specs.Layout.{numbers_of, state_of}
use Rattle.state.specs.State.{WellFormed, state_outcome}
use Rattle.coding.specs.Bytes.{bytes_of, Bytes}
use Rattle.coding.specs.Body.{missing}
use Rattle.record.specs.Record.{Trailer, current, first, read_result, trailer_in, version_of, read_call, trailer_bytes, encoded}

-- what was written is read back, behind any note, with that note
abbrev pub ReadBack : Type 0
ReadBack =
    (s : State) → WellFormed s → state_outcome s ≡ Ok tt → (note : List ℕ)
    → read_call (note ++ encoded s) ≡ read_result (record { outcome = Ok tt; state = s }) note

-- the record of a well-formed state, behind any note, is accepted exactly when the checks of the state pass it: it is turned back by the same check
abbrev pub SameOutcome : Type 0
SameOutcome = (s : State) → WellFormed s → (note : List ℕ) → (read_call (note ++ encoded s)).answer.outcome ≡ state_outcome s

-- a version 1 record of 197 numbers, behind any note, is read as the state of these and of the missing ones, with that note, where that state is accepted
abbrev pub FirstRead : Type 0
FirstRead =
    (xs : List ℤ) → Words first.count xs → state_outcome (state_of (xs ++ missing)) ≡ Ok tt → (note : List ℕ)
    → read_call (note ++ (bytes_of xs ++ trailer_bytes first)) ≡ read_result (record { outcome = Ok tt; state = state_of (xs ++ missing) }) note

-- it is accepted exactly when the checks of the state pass it
abbrev pub FirstOutcome : Type 0
FirstOutcome =
    (xs : List ℤ) → Words first.count xs → (note : List ℕ)
    → (read_call (note ++ (bytes_of xs ++ trailer_bytes first))).answer.outcome ≡ state_outcome (state_of (xs ++ missing))

-- two accepted records of the same version that give the same state differ at most in their notes
abbrev pub SameRest : Type 0
SameRest =
    (b c : List ℕ) → Bytes b → Bytes c → is_accepted (read_call b).answer.outcome ≡ true → is_accepted (read_call c).answer.outcome ≡ true
    → version_of b ≡ version_of c
    → (read_call b).answer.state ≡ (read_call c).answer.state → drop (length (read_call b).note) b ≡ drop (length (read_call c).note) c

-- an accepted record is its note and, behind it, the numbers of the state that it is read as, as far as its version has them, and its version's trailer
abbrev pub rest_by : Trailer → State → List ℕ
rest_by t s = bytes_of (take t.count (numbers_of s)) ++ trailer_bytes t

abbrev pub RecordBack : Type 0
RecordBack =
    (b : List ℕ) → Bytes b → is_accepted (read_call b).answer.outcome ≡ true
    → (read_call b).note ++ rest_by (trailer_in b) (read_call b).answer.state ≡ b

-- of the version that is written, that is the record that the writer makes of the state
abbrev pub WrittenBack : Type 0
WrittenBack =
    (b : List ℕ) → Bytes b → is_accepted (read_call b).answer.outcome ≡ true → version_of b ≡ current.version
    → (read_call b).note ++ encoded (read_call b).answer.state ≡ b

-- the state that an accepted record is read as is well-formed, and accepted by every call
abbrev pub ReadFormed : Type 0
ReadFormed =
    (b : List ℕ) → Bytes b → is_accepted (read_call b).answer.outcome ≡ true
    → WellFormed (read_call b).answer.state × (state_outcome (read_call b).answer.state ≡ Ok tt)
