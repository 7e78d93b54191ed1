-- The frame call: the core of the frame (Decoder_amr of TS 26.073), then the postfilter over its synthesis samples (Post_Filter). Of a sheet of any kind.
use Rattle.std.specs.Prelude.{if◌then◌else◌, List, [], ◌++◌, map, ℕ, ℤ, pos, length, replicate}
use Rattle.basicop.specs.Ops.{Quotient}
use Rattle.pitch.specs.Lag.{Lag}
use Rattle.lpc.specs.declared.Rows.{Rows}
use Rattle.decoder.specs.Inputs.{SubframeInputs, FrameInputs}
use Rattle.decoder.specs.Core.{SubframeResult, CoreResult, core_result, places_of, samples_of, quotients_of}
use Rattle.postfilter.specs.Postfilter.{PostfilterResult, postfilter_result}
use Rattle.state.specs.declared.State.{State}
use Rattle.outcome.specs.Outcome.{Outcome, is_accepted}
use Rattle.kinds.specs.Kind.{Kind, frame_kind, index_kind, erased_kind, call_outcome}
use Rattle.kinds.specs.Prepass.{PreparedFrame, prepared}
use Rattle.mr74.specs.declared.FrameAnswer.{FrameAnswer}
use Rattle.mr74.specs.declared.EnergiesAnswer.{EnergiesAnswer}

-- ---- a frame, of what its sheet comes to and an accepted state
-- the core takes and gives the core's part of the state alone
abbrev pub core_result_of : FrameInputs → State → CoreResult
core_result_of inputs s = core_result s.core inputs

-- the postfilter has its own memory, the rows and the synthesis samples
abbrev pub post_result_of : FrameInputs → State → PostfilterResult
post_result_of inputs s = postfilter_result s.post (core_result_of inputs s).rows (samples_of (core_result_of inputs s).subframes)

abbrev pub next_state_of : PreparedFrame → State → State
next_state_of p s =
    record { core = (core_result_of p.inputs s).next; post = (post_result_of p.inputs s).output.memory; concealment = p.concealment }

-- ---- all that is spoken of in a call
pub record Trace : Type 0 where
  -- the refusal, or that it was accepted
  pub outcome : Outcome
  pub rows : Rows
  -- of each subframe
  pub lags : List Lag
  -- of each subframe: what its synthesis was fed (row, feedback before any quartering, first excitation), what came of it (whether it was retried, place,
  -- synthesis samples, feedback, past), and the core's state after it
  pub subframes : List SubframeResult
  -- of each subframe: the first sample, 0 to 39, at which a step of its first pass clamped, 40 where none did; 40 four times where the call was refused
  pub places : List ℕ
  -- of each subframe
  pub tilts : List ℤ
  -- every quotient that was taken, with its divisor
  pub quotients : List Quotient
  -- the lent output afterwards, and the state and the past energies given back
  pub output : List ℤ
  pub next : State
  pub energies : List ℤ

abbrev pub accepted_trace : Outcome → PreparedFrame → State → Trace
accepted_trace o p s =
    let core = core_result_of p.inputs s in
    let post = post_result_of p.inputs s in
    record {
      outcome = o;
      rows = core.rows;
      lags = map (λ (subframe : SubframeInputs). subframe.lag) p.inputs.subframes;
      subframes = core.subframes;
      places = places_of core.subframes;
      tilts = post.tilts;
      quotients = quotients_of core.subframes ++ post.quotients;
      output = post.output.samples;
      next = next_state_of p s;
      energies = p.energies;
    }

-- rows all zero, places 40, no subframe, the output as it was, the state and the energies as they came
abbrev pub zero_rows : Rows
zero_rows = record { a = replicate 11 (pos 0); b = replicate 11 (pos 0); c = replicate 11 (pos 0); d = replicate 11 (pos 0) }

abbrev pub refused_trace : Outcome → List ℤ → State → List ℤ → Trace
refused_trace o energies s out =
    record {
      outcome = o;
      rows = zero_rows;
      lags = [];
      subframes = [];
      places = replicate 4 40;
      tilts = [];
      quotients = [];
      output = out;
      next = s;
      energies = energies;
    }

-- of a kind, the past energies, a sheet, a state and the lent output. A frame sheet's call is lent no energies, and gives none
unfoldable pub call_trace : Kind → List ℤ → List ℤ → State → List ℤ → Trace
call_trace kind energies sheet s out =
    let o = call_outcome kind sheet s (length out) in
    if is_accepted o then accepted_trace o (prepared kind energies sheet s) s else refused_trace o energies s out

-- ---- what a call gives: its answer, and the lent output afterwards
pub record CallResult : Type 0 where
  pub answer : FrameAnswer
  pub lent : List ℤ

abbrev pub call_result : FrameAnswer → List ℤ → CallResult
call_result answer lent = record { answer = answer; lent = lent }

abbrev pub result_of : Trace → CallResult
result_of t = call_result (record { outcome = t.outcome; rows = t.rows; places = t.places; next = t.next }) t.output

-- and the past energies, where it is lent them
pub record EnergiesResult : Type 0 where
  pub answer : EnergiesAnswer
  pub lent : List ℤ

abbrev pub energies_result : EnergiesAnswer → List ℤ → EnergiesResult
energies_result answer lent = record { answer = answer; lent = lent }

abbrev pub energies_result_of : Trace → EnergiesResult
energies_result_of t = energies_result (record { frame = (result_of t).answer; gain_decoder = record { energies = t.energies } }) t.output

-- ---- the three calls
unfoldable pub frame_call : List ℤ → State → List ℤ → CallResult
frame_call sheet s out = result_of (call_trace frame_kind [] sheet s out)

unfoldable pub index_call : List ℤ → List ℤ → List ℤ → List ℤ → State → List ℤ → EnergiesResult
index_call logs pows energies sheet s out = energies_result_of (call_trace (index_kind logs pows) energies sheet s out)

unfoldable pub erased_call : List ℤ → List ℤ → State → List ℤ → EnergiesResult
erased_call energies sheet s out = energies_result_of (call_trace erased_kind energies sheet s out)
