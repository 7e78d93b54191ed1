-- The outcomes of the calls, and what their places lie in, so that number and place go into one number.
use Rattle.std.proofs.Common.{◌≡◌, refl, Bool, true, false, List, ℕ, ◌≤◌, ◌<◌, ℤ, length}
use Rattle.outcome.specs.Outcome.{place_of, is_accepted}
use Rattle.outcome.specs.Checks.{first_met}
use Rattle.outcome.proofs.Checks.{placed_append, none_placed, place_low}
use Rattle.state.specs.declared.State.{State}
use Rattle.state.specs.State.{state_checks}
use Rattle.state.specs.Layout.{state_of}
use Rattle.state.proofs.Checks.{fields, state_placed, taken_fields}
use Rattle.record.specs.Record.{numbers_in, byte_checks, record_checks, record_outcome, read_call, room_checks, write_checks, write_call}
use Rattle.record.proofs.Reader.{outcome_is}
use Rattle.gain.specs.Call.{decode_checks, gain_call}
use Rattle.gain.proofs.Groups.{decode_placed}
use Rattle.kinds.specs.Kind.{Kind, SheetKind, kind_of, call_outcome}
use Rattle.kinds.proofs.Groups.{call_place}
use Rattle.mr74.specs.Frame.{call_trace}
use Rattle.mr74.specs.Inner.{kind_call}

-- a trace's outcome is what its checks come to
pub traced_outcome : (kind : Kind) (energies sheet : List ℤ) (s : State) (out : List ℤ) → (call_trace kind energies sheet s out).outcome ≡ call_outcome kind sheet s (length out)
unfolding call_trace
traced_outcome kind energies sheet s out = go (is_accepted (call_outcome kind sheet s (length out))) refl
  where
    go : (b : Bool) → is_accepted (call_outcome kind sheet s (length out)) ≡ b → (call_trace kind energies sheet s out).outcome ≡ call_outcome kind sheet s (length out)
    go true e = rw e refl
    go false e = rw e refl

-- of a state whose fives are no longer than fives
pub frame_place : (k : SheetKind) (energies sheet : List ℤ) (s : State) (out : List ℤ) → length (fields s.concealment) ≤ 15 → place_of (kind_call (kind_of k) energies sheet s out).answer.frame.outcome < 256
unfolding kind_call
frame_place k energies sheet s out l = rw (traced_outcome (kind_of k) energies sheet s out) (call_place k sheet s (length out) l)

pub gain_place : (logs pows : List ℤ) (index : ℤ) (innovation energies : List ℤ) → place_of (gain_call logs pows index innovation energies).outcome < 256
unfolding gain_call
gain_place logs pows index innovation energies = place_low (decode_checks logs pows index) (decode_placed logs pows index)

pub read_place : (b : List ℕ) → place_of (read_call b).answer.outcome < 256
unfolding record_outcome
read_place b =
    let s = state_of (numbers_in b) in
    rw (outcome_is b) (place_low (record_checks b) (placed_append (byte_checks b) (state_checks s) (none_placed (byte_checks b) tt) (state_placed s (taken_fields (numbers_in b)))))

write_outcome : (s : State) (out : List ℕ) → (write_call s out).outcome ≡ first_met (write_checks s (length out))
unfolding write_call
write_outcome s out = go (is_accepted (first_met (write_checks s (length out)))) refl
  where
    go : (b : Bool) → is_accepted (first_met (write_checks s (length out))) ≡ b → (write_call s out).outcome ≡ first_met (write_checks s (length out))
    go true e = rw e
    go false e = rw e

pub write_place : (s : State) → length (fields s.concealment) ≤ 15 → (out : List ℕ) → place_of (write_call s out).outcome < 256
write_place s l out =
    let room = length out in
    rw (write_outcome s out)
    (place_low (write_checks s room) (placed_append (room_checks room) (state_checks s) (none_placed (room_checks room) tt) (state_placed s l)))
