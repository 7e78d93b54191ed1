-- A call that the theorem over lists of calls speaks of: from an accepted state, accepted, with subframes that are retried and subframes that are not, and it divides at
-- every place where the definition can. And a call that is refused.
-- The theorems are `example` and `refused_trace_lem` in proofs/Examples.antt: each value is computed from the definition.
use Rattle.std.specs.Prelude.{◌≡◌, Ok, Err, Bool, true, ℕ, List, [], ◌∷◌, ◌++◌, ℤ, pos, replicate}
use Rattle.lists.specs.Lists.{minus, at}
use Rattle.basicop.specs.Ops.{Quotient}
use Rattle.pitch.specs.Lag.{Lag}
use Rattle.state.specs.declared.State.{State}
use Rattle.outcome.specs.declared.Refusal.TheVariants.{SheetLength}
use Rattle.state.specs.State.{WellFormed, state_outcome}
use Rattle.state.specs.Layout.{state_of}
use Rattle.coding.specs.Body.{missing}
use Rattle.kinds.specs.Kind.{FrameSheet, IndexSheet, ErasedSheet}
use Rattle.mr74.specs.Frame.{Trace}
use Rattle.calls.specs.Calls.{Call, trace_of, run_calls, accepted, any_accepted, latest_place}

-- ---- a call of each kind, by what it brings. (A frame sheet's call goes by no energies.)
abbrev pub frame_sheet_call : List ℤ → List ℤ → Call
frame_sheet_call sheet out = record { kind = FrameSheet; energies = []; sheet = sheet; out = out }

abbrev pub index_sheet_call : List ℤ → List ℤ → List ℤ → List ℤ → List ℤ → Call
index_sheet_call logs pows energies sheet out = record { kind = IndexSheet logs pows; energies = energies; sheet = sheet; out = out }

abbrev pub erased_sheet_call : List ℤ → List ℤ → List ℤ → Call
erased_sheet_call energies sheet out = record { kind = ErasedSheet; energies = energies; sheet = sheet; out = out }

-- ---- what a version 1 record of zeros is read as: zeros but for the last lag, 40
abbrev pub silent_numbers : List ℤ
silent_numbers = replicate 197 (pos 0) ++ missing

unfoldable pub silent : State
silent = state_of silent_numbers

-- LSFs at even distances; pitch indices 5, 31, 7, 0; pitch gains 1 (Q14), and the greatest code gain in the last subframe; the same innovation throughout
unfoldable pub loud : List ℤ
loud =
    (pos 1400 ∷ pos 2800 ∷ pos 4200 ∷ pos 5600 ∷ pos 7000 ∷ pos 8400 ∷ pos 9800 ∷ pos 11200 ∷ pos 12600 ∷ pos 14000 ∷ [])
    ++ ((pos 5 ∷ pos 31 ∷ pos 7 ∷ pos 0 ∷ [])
    ++ ((pos 16384 ∷ pos 100 ∷ pos 16384 ∷ pos 100 ∷ pos 16384 ∷ pos 100 ∷ pos 16384 ∷ pos 32767 ∷ [])
    ++ replicate 160 (pos 8192)))

abbrev pub call : Call
call = frame_sheet_call loud (replicate 160 (pos 0))

-- a call with no sheet and no output, which is refused
abbrev pub empty_call : Call
empty_call = frame_sheet_call [] []

abbrev pub calls : List Call
calls = call ∷ empty_call ∷ []

-- of a call: whether it was accepted, lags, places, tilts, quotients, and of the state given back sharpening, smoothed gain and
-- the newest excitation
pub record Seen : Type 0 where
  pub accepted : Bool
  pub lags : List Lag
  pub places : List ℕ
  pub tilts : List ℤ
  pub quotients : List Quotient
  pub sharpening : ℤ
  pub gain : ℤ
  pub newest : ℤ

abbrev pub seen : Trace → Seen
seen t =
    record {
      accepted = accepted t;
      lags = t.lags;
      places = t.places;
      tilts = t.tilts;
      quotients = t.quotients;
      sharpening = t.next.core.sharpening.0;
      gain = t.next.post.gain.previous_gain;
      newest = at t.next.core.past 153;
    }

abbrev pub lag : ℕ → ℤ → Lag
lag samples thirds = record { samples = pos samples; thirds = thirds }

abbrev pub quotient : ℕ → ℕ → Quotient
quotient value divisor = record { value = pos value; divisor = pos divisor }

-- The first and the last subframe were retried: a step clamped first in sample 8 of the one and in sample 19 of the other. Each subframe has a tilt
-- above 0. Twelve quotients, each by its value and its divisor: enhancement in each subframe; then in each the tilt, whose value is the tilt above, and the
-- gain control. Sharpening, and the past after a retry, reach the upper ends of their ranges
abbrev pub expected : Seen
expected =
    record {
      accepted = true;
      lags = lag 21 (pos 0) ∷ lag 30 (minus 1) ∷ lag 22 (minus 1) ∷ lag 19 (pos 1) ∷ [];
      places = 8 ∷ 40 ∷ 40 ∷ 19 ∷ [];
      tilts = pos 25275 ∷ pos 935 ∷ pos 1469 ∷ pos 2399 ∷ [];
      quotients =
          quotient 16384 25000 ∷ quotient 18610 27420 ∷ quotient 12079 27802 ∷ quotient 16384 32767
          ∷ quotient 25275 32767 ∷ quotient 16384 32767 ∷ quotient 935 806 ∷ quotient 13721 20408
          ∷ quotient 1469 602 ∷ quotient 16330 24883 ∷ quotient 2399 519 ∷ quotient 16044 28736 ∷ [];
      sharpening = pos 13017;
      gain = pos 4106;
      newest = pos 8191;
    }

pub record Example : Type 0 where
  -- what is asked of the opening state
  pub well_formed : WellFormed silent
  pub state : state_outcome silent ≡ Ok tt
  pub call : seen (trace_of silent call) ≡ expected
  -- the list meets both conditions: a call was accepted, and the last subframe of the latest accepted one was retried, since its place is not 40
  pub any : any_accepted (run_calls silent calls) ≡ true
  pub latest : latest_place 40 (run_calls silent calls) ≡ 19

-- ---- the refused call's trace: rows are zeros and the four places 40, no other list has an entry, and the state is the one that came
abbrev pub zero_row : List ℤ
zero_row = replicate 11 (pos 0)

abbrev pub empty_trace : State → Trace
empty_trace s =
    record {
      outcome = Err SheetLength;
      rows = record { a = zero_row; b = zero_row; c = zero_row; d = zero_row };
      lags = [];
      subframes = [];
      places = 40 ∷ 40 ∷ 40 ∷ 40 ∷ [];
      tilts = [];
      quotients = [];
      output = [];
      next = s;
      energies = [];
    }

abbrev pub RefusedTrace : Type 0
RefusedTrace = (s : State) → trace_of s empty_call ≡ empty_trace s
