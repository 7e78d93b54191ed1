-- The handover record (docs/BENCH.md, "Record"): a note of any length; a body of signed 16-bit numbers; a trailer of 8 bytes, which are
-- the tag 4D 37, and, 16 bits each, version, distance back from the trailer to the body, and count of the body's numbers.
-- Versions 2 and 1 are read.
use Rattle.std.specs.Prelude.{Bool, true, false, if◌then◌else◌, not, ◌&&◌, List, [], ◌∷◌, ◌++◌, ℕ, ◌+◌, ◌-◌, ◌*◌, ◌==◌, nat_lt, ℤ, pos}
use Rattle.std.specs.Prelude.{length, take, drop, slice_index, replicate}
use Rattle.outcome.specs.declared.Refusal.TheVariants.{OutputLength, RecordShort, Tag, Version, Layout, BodyShort}
use Rattle.outcome.specs.Outcome.{Outcome, is_accepted}
use Rattle.outcome.specs.Checks.{Check, check, first_met}
use Rattle.state.specs.declared.State.{State}
use Rattle.state.specs.State.{state_checks}
use Rattle.state.specs.Layout.{core_count, post_count, state_count, numbers_of, state_of}
use Rattle.record.specs.declared.Answer.{Answer}
use Rattle.coding.specs.Bytes.{unsigned, words, bytes_of}
use Rattle.coding.specs.Body.{body_length, missing}

-- ---- trailers
pub record Trailer : Type 0 where
  pub version : ℕ
  pub distance : ℕ
  pub count : ℕ
  -- the fields after these, as a record of this version is read
  pub missing : List ℤ

-- version 2, which is written: 426 bytes, 213 numbers
abbrev pub current : Trailer
current = record { version = 2; distance = body_length; count = state_count; missing = [] }

-- version 1: 394 bytes, 197 numbers, those of core and postfilter
abbrev pub first : Trailer
first = record { version = 1; distance = 2 * (core_count + post_count); count = core_count + post_count; missing = missing }

-- the versions that are read
abbrev pub versions : List Trailer
versions = current ∷ first ∷ []

-- whether a version is among them, and its trailer
abbrev pub known : ℕ → List Trailer → Bool
known v [] = false
known v (t ∷ ts) = if v == t.version then true else known v ts

abbrev pub trailer_of : ℕ → List Trailer → Trailer
trailer_of v [] = record { version = v; distance = 0; count = 0; missing = [] }
trailer_of v (t ∷ ts) = if v == t.version then t else trailer_of v ts

-- ---- the parts of a record, by its last 8 bytes
abbrev pub end_of : List ℕ → List ℕ
end_of b = drop (length b - 8) b

-- of 8 bytes: a number in two of them, and whether they begin with the tag
abbrev pub field_at : List ℕ → ℕ → ℕ
field_at t k = unsigned (slice_index t k) (slice_index t (k + 1))

abbrev pub tagged : List ℕ → Bool
tagged t = slice_index t 0 == 0x4D && slice_index t 1 == 0x37

abbrev pub version_of : List ℕ → ℕ
version_of b = field_at (end_of b) 2

abbrev pub trailer_in : List ℕ → Trailer
trailer_in b = trailer_of (version_of b) versions

-- how far before the trailer the body begins, by the record's version
abbrev pub distance_of : List ℕ → ℕ
distance_of b = (trailer_in b).distance

abbrev pub note_length : List ℕ → ℕ
note_length b = length b - 8 - distance_of b

abbrev pub note_of : List ℕ → List ℕ
note_of b = take (note_length b) b

-- the body's numbers, and then those that a record of its version has not
abbrev pub numbers_in : List ℕ → List ℤ
numbers_in b = words (take (distance_of b) (drop (note_length b) b)) ++ (trailer_in b).missing

-- ---- the reader
-- 11: under 8 bytes
abbrev pub size_checks : ℕ → List Check
size_checks size = check (nat_lt size 8) RecordShort ∷ []

-- of the last 8 bytes. 12: tag differs; 13: unknown version; 14: distance or count is not the version's
abbrev pub trailer_checks : List ℕ → List Check
trailer_checks t =
    let v = trailer_of (field_at t 2) versions in
    check (not (tagged t)) Tag ∷
    check (not (known (field_at t 2) versions)) Version ∷
    check (not (field_at t 4 == v.distance && field_at t 6 == v.count)) Layout ∷
    []

-- 15: fewer bytes before the trailer than the version's distance
abbrev pub body_checks : ℕ → ℕ → List Check
body_checks before distance = check (nat_lt before distance) BodyShort ∷ []

-- 11 to 15: what is tested of the bytes
abbrev pub byte_checks : List ℕ → List Check
byte_checks b = size_checks (length b) ++ (trailer_checks (end_of b) ++ body_checks (length b - 8) (distance_of b))

-- then what is tested of the state in them
abbrev pub record_checks : List ℕ → List Check
record_checks b = byte_checks b ++ state_checks (state_of (numbers_in b))

unfoldable pub record_outcome : List ℕ → Outcome
record_outcome b = first_met (record_checks b)

abbrev pub zero_state : State
zero_state = state_of (replicate state_count (pos 0))

-- a refused read gives the all-zero state
abbrev pub refused_answer : Outcome → Answer
refused_answer o = record { outcome = o; state = zero_state }

-- what the reader gives: the answer, and the note
pub record ReadResult : Type 0 where
  pub answer : Answer
  pub note : List ℕ

abbrev pub read_result : Answer → List ℕ → ReadResult
read_result answer note = record { answer = answer; note = note }

-- and an empty note
unfoldable pub read_call : List ℕ → ReadResult
read_call b =
    let o = record_outcome b in
    if is_accepted o
    then read_result (record { outcome = o; state = state_of (numbers_in b) }) (note_of b)
    else read_result (refused_answer o) []

-- ---- the writer
abbrev pub trailer_bytes : Trailer → List ℕ
trailer_bytes t = 0x4D ∷ 0x37 ∷ bytes_of (pos t.version ∷ pos t.distance ∷ pos t.count ∷ [])

-- the bytes of a state's record, without a note
unfoldable pub encoded : State → List ℕ
encoded s = bytes_of (numbers_of s) ++ trailer_bytes current

-- as many as they are
abbrev pub record_length : ℕ
record_length = current.distance + 8

-- 5: no room for them
abbrev pub room_checks : ℕ → List Check
room_checks room = check (not (room == record_length)) OutputLength ∷ []

-- of a state and the length of the lent bytes
abbrev pub write_checks : State → ℕ → List Check
write_checks s room = room_checks room ++ state_checks s

-- the outcome, and the lent bytes afterwards
pub record WriteResult : Type 0 where
  pub outcome : Outcome
  pub lent : List ℕ

abbrev pub write_result : Outcome → List ℕ → WriteResult
write_result outcome lent = record { outcome = outcome; lent = lent }

unfoldable pub write_call : State → List ℕ → WriteResult
write_call s out =
    let o = first_met (write_checks s (length out)) in
    if is_accepted o then write_result o (encoded s) else write_result o out
