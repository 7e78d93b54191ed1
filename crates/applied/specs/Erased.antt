-- Erased frames (docs/BENCH.md, "Erased frames"), computed from the state `silent`: an erased frame, a good frame and an erased frame after it, a good frame that is
-- held; the theorems of kinds/specs/Accepted.antt, calls/specs/Calls.antt and gain_concealment/specs/Laws.antt applied; an index frame that is held; and the theorem over
-- lists of calls applied to a list of all three kinds. The theorems are in proofs/Erased.antt.
use Rattle.std.specs.Prelude.{◌≡◌, Ok, true, List, [], ◌∷◌, ◌++◌, map, ℕ, ℤ, pos, ◌+ℤ◌, drop, replicate, set, ◌≤ℤ◌}
use Rattle.lists.specs.Lists.{minus, at, Every}
use Rattle.pitch.specs.Lag.{Lag}
use Rattle.decoder.specs.Inputs.{SubframeInputs}
use Rattle.gain_concealment.specs.declared.GainConcealment.{GainConcealment}
use Rattle.gain_concealment.specs.Median.{sorted, median}
use Rattle.gain_concealment.specs.Concealment.{concealed_gains}
use Rattle.state.specs.declared.State.{State}
use Rattle.state.specs.State.{WellFormed, state_outcome}
use Rattle.state.specs.Layout.{concealment_numbers, gain_numbers, numbers_of, state_of}
use Rattle.outcome.specs.Outcome.{number_of, place_of, is_accepted}
use Rattle.gain.specs.Call.{opening_energies}
use Rattle.kinds.specs.Kind.{frame_kind, index_kind, erased_kind, call_outcome}
use Rattle.kinds.specs.Prepass.{PreparedFrame, prepared}
use Rattle.mr74.specs.Frame.{call_trace, erased_call, EnergiesResult}
use Rattle.mr74.specs.Indexed.{decoded_sheet, without_energies}
use Rattle.calls.specs.Calls.{Call, trace_of, next_state}
use Rattle.applied.specs.Examples.{frame_sheet_call, index_sheet_call, erased_sheet_call, silent, silent_numbers, lag}
use Rattle.applied.specs.CallList.{AsPlaced, TwoCalls}
use Rattle.applied.specs.Gains.{log_table, pow_table}
use Rattle.applied.specs.Indexed.{index_sheet, out}
use Rattle.applied.specs.Refusals.{Refusal, refused, zeros_then, lowest}

-- ---- the sheets: LSFs; two pulses in each subframe
abbrev pub frequencies : List ℤ
frequencies = pos 1384 ∷ pos 2077 ∷ pos 3420 ∷ pos 5108 ∷ pos 6742 ∷ pos 8122 ∷ pos 9863 ∷ pos 11092 ∷ pos 12714 ∷ pos 13701 ∷ []

abbrev pub pulses : List ℤ
pulses = set (set (replicate 40 (pos 0)) 0 (pos 8191)) 7 (minus 8191)

abbrev pub innovation : List ℤ
innovation = pulses ++ (pulses ++ (pulses ++ pulses))

-- an erased one of a stage, and a good one: pitch indices 120, 15, 120, 15, gains 20000 and 1000 four times
unfoldable pub erased_sheet : ℤ → List ℤ
erased_sheet stage = frequencies ++ (stage ∷ innovation)

unfoldable pub good_sheet : List ℤ
good_sheet =
    frequencies
    ++ ((pos 120 ∷ pos 15 ∷ pos 120 ∷ pos 15 ∷ [])
    ++ ((pos 20000 ∷ pos 1000 ∷ pos 20000 ∷ pos 1000 ∷ pos 20000 ∷ pos 1000 ∷ pos 20000 ∷ pos 1000 ∷ [])
    ++ innovation))

-- ---- what a sheet comes to: of each subframe lag, pitch and code gain; and the concealment after it, fields 197..=212
pub record Subframe : Type 0 where
  pub lag : Lag
  pub pitch : ℤ
  pub code : ℤ

abbrev pub subframe : ℕ → ℕ → ℕ → Subframe
subframe samples pitch code = record { lag = lag samples (pos 0); pitch = pos pitch; code = pos code }

abbrev pub subframes : PreparedFrame → List Subframe
subframes p = map (λ (s : SubframeInputs). record { lag = s.lag; pitch = s.pitch; code = s.code }) p.inputs.subframes

-- from `silent`, which has no gain to conceal with: an erased frame, and its call
abbrev pub lost : PreparedFrame
lost = prepared erased_kind opening_energies (erased_sheet (pos 0)) silent

abbrev pub lost_result : EnergiesResult
lost_result = erased_call opening_energies (erased_sheet (pos 0)) silent out

-- the state `silent` with the concealment that a frame leaves: no gain and no lag depends on a sample
abbrev pub concealing : PreparedFrame → State
concealing p = record silent { concealment = p.concealment }

-- a good one, and after it an erased one of stage 1
abbrev pub good : PreparedFrame
good = prepared frame_kind [] good_sheet silent

abbrev pub lost_later : PreparedFrame
lost_later = prepared erased_kind opening_energies (erased_sheet (pos 1)) (concealing good)

-- a good one after the first erased one: its gains are held to the last good ones, of which there are none
abbrev pub held : PreparedFrame
held = prepared frame_kind [] good_sheet (concealing lost)

pub record ErasedValues : Type 0 where
  pub accepted : call_outcome erased_kind (erased_sheet (pos 0)) silent 160 ≡ Ok tt
  -- lags, no gain, and the mark; silence; the energies, stepped four times
  pub lost_subframes : subframes lost ≡ subframe 41 0 0 ∷ subframe 42 0 0 ∷ subframe 43 0 0 ∷ subframe 44 0 0 ∷ []
  pub lost_fields : concealment_numbers lost_result.answer.frame.next.concealment ≡ pos 44 ∷ (replicate 14 (pos 0) ++ (pos 1 ∷ []))
  pub samples : lost_result.lent ≡ replicate 160 (pos 0)
  pub energies : lost_result.answer.gain_decoder.energies ≡ replicate 4 (minus 8192)
  -- of energies whose sums clamp
  pub clamped_energies :
      (prepared erased_kind (pos 20000 ∷ pos 20000 ∷ minus 20000 ∷ minus 20000 ∷ []) (erased_sheet (pos 0)) silent).energies
      ≡ pos 7393 ∷ pos 8191 ∷ pos 3191 ∷ minus 1809 ∷ []
  -- after the good frame: the last lag; two fives, whose pitch gains are held to 16384; past gains; last good gains, which are not; the mark
  pub good_fields :
      concealment_numbers good.concealment
      ≡ pos 58
      ∷ ((pos 0 ∷ replicate 4 (pos 16384))
      ++ ((pos 0 ∷ replicate 4 (pos 1000))
      ++ (pos 16384 ∷ pos 1000 ∷ pos 20000 ∷ pos 1000 ∷ pos 0 ∷ [])))
  pub later_subframes :
      subframes lost_later ≡ subframe 59 16056 979 ∷ subframe 60 15734 959 ∷ subframe 61 15419 939 ∷ subframe 62 15110 920 ∷ []
  -- held to nothing
  pub held_pitch : map (λ (s : SubframeInputs). s.pitch) held.inputs.subframes ≡ replicate 4 (pos 0)
  pub held_code : map (λ (s : SubframeInputs). s.code) held.inputs.subframes ≡ replicate 4 (pos 0)
  pub held_fields : concealment_numbers held.concealment ≡ pos 58 ∷ replicate 15 (pos 0)

-- ---- the order 1, 5, 2, 6, 9, 16 to 19: each call meets its check and all those after it; the last meets none
abbrev pub erased_refusal : List ℤ → List ℤ → ℕ → Refusal
erased_refusal sheet numbers room =
    let o = call_outcome erased_kind sheet (state_of numbers) room in
    refused (number_of o) (place_of o)

unfoldable pub erased_ordered : List Refusal
erased_ordered =
    erased_refusal (zeros_then 0 182) (zeros_then 0 213) 159
    ∷ erased_refusal (zeros_then 0 171) (zeros_then 0 213) 159
    ∷ erased_refusal (zeros_then 0 171) (zeros_then 0 213) 160
    ∷ erased_refusal (zeros_then 10 171) (zeros_then 0 213) 160
    ∷ erased_refusal (lowest ++ zeros_then 0 161) (zeros_then 0 213) 160
    ∷ erased_refusal (lowest ++ (pos 7 ∷ zeros_then 0 160)) (zeros_then 0 213) 160
    ∷ erased_refusal (lowest ++ (pos 6 ∷ zeros_then 0 160)) (zeros_then 0 213) 160
    ∷ erased_refusal (lowest ++ (pos 6 ∷ zeros_then 0 160)) (zeros_then 165 213) 160
    ∷ erased_refusal (lowest ++ (pos 6 ∷ zeros_then 0 160)) (zeros_then 197 213) 160
    ∷ erased_refusal (lowest ++ (pos 6 ∷ zeros_then 0 160)) (zeros_then 213 213) 160
    ∷ erased_refusal (lowest ++ (pos 6 ∷ zeros_then 0 160)) silent_numbers 160
    ∷ []

abbrev pub ErasedOrder : Type 0
ErasedOrder =
    erased_ordered
    ≡ refused 1 0 ∷ refused 5 0 ∷ refused 2 0 ∷ refused 6 0 ∷ refused 9 0 ∷ refused 9 0 ∷ refused 16 0 ∷ refused 17 0
    ∷ refused 18 198 ∷ refused 19 197 ∷ refused 0 0 ∷ []

-- ---- the theorems, applied
-- fives 5 1 4 2 3 and 30 10 20 50 40; past gains 30000 and 35
abbrev pub fives : GainConcealment
fives =
    record {
      pitch_history = pos 5 ∷ pos 1 ∷ pos 4 ∷ pos 2 ∷ pos 3 ∷ [];
      code_history = pos 30 ∷ pos 10 ∷ pos 20 ∷ pos 50 ∷ pos 40 ∷ [];
      past = record { pitch = record { 0 = pos 30000 }; code = record { 0 = pos 35 } };
      last_good = record { pitch = record { 0 = pos 7 }; code = record { 0 = pos 8 } };
    }

abbrev pub lost_call : Call
lost_call = erased_sheet_call opening_energies (erased_sheet (pos 0)) out

-- the state after the erased frame
abbrev pub after_lost : State
after_lost = lost_result.answer.frame.next

-- concealed gains lie in 0..=32766
pub record GainsIn (p : SubframeInputs) : Type 0 where
  pub pitch : (pos 0 ≤ℤ p.pitch) × (p.pitch ≤ℤ pos 32766)
  pub code : (pos 0 ≤ℤ p.code) × (p.code ≤ℤ pos 32766)

pub record ErasedApplied : Type 0 where
  -- AcceptedExactly: of a sheet that begins with these two LSFs, and of any
  pub shown : (x y : ℤ) (rest : List ℤ) (s : State) → is_accepted (call_outcome erased_kind (x ∷ y ∷ rest) s 160) ≡ true → (pos 205 ≤ℤ x) × ((x +ℤ pos 205) ≤ℤ y)
  pub stage : (sheet : List ℤ) (s : State) → is_accepted (call_outcome erased_kind sheet s 160) ≡ true → (pos 0 ≤ℤ at sheet 10) × (at sheet 10 ≤ℤ pos 6)
  -- SortedKept: the least comes first, and the second after it
  pub least : at (sorted fives.code_history) 0 ≤ℤ at (sorted fives.code_history) 1
  -- MedianOfAny: two of the five exchanged
  pub exchanged : (x y : ℤ) → median (x ∷ y ∷ pos 4 ∷ pos 2 ∷ pos 3 ∷ []) ≡ median (y ∷ x ∷ pos 4 ∷ pos 2 ∷ pos 3 ∷ [])
  -- ConcealedInRange, at the last stage
  pub pitch : (pos 0 ≤ℤ (concealed_gains (pos 6) fives).gains.pitch.0) × ((concealed_gains (pos 6) fives).gains.pitch.0 ≤ℤ pos 32766)
  pub code : (pos 0 ≤ℤ (concealed_gains (pos 6) fives).gains.code.0) × ((concealed_gains (pos 6) fives).gains.code.0 ≤ℤ pos 32766)
  -- the gains of every subframe, of any sheet that is accepted, stage and energies
  pub gains :
      (energies sheet : List ℤ) → is_accepted (call_outcome erased_kind sheet silent 160) ≡ true
      → Every GainsIn (prepared erased_kind energies sheet silent).inputs.subframes
  -- NextAccepted, NextWellFormed
  pub next_accepted : state_outcome (next_state silent lost_call) ≡ Ok tt
  pub next_well_formed : WellFormed (next_state silent lost_call)
  -- FieldsPlaced, of the state that it leaves
  pub last_lag : at (numbers_of after_lost) 197 ≡ after_lost.concealment.last_lag
  pub fields : drop 198 (numbers_of after_lost) ≡ gain_numbers after_lost.concealment.gains ++ (after_lost.concealment.erased ∷ [])

-- ---- IndexIsFrame with the mark: the index sheet of Indexed.antt after the erased frame. Its pitch gains are held to nothing, so that no later subframe
-- is sharpened; the frame sheet has the gains as they were decoded by that, and holds them again
abbrev pub held_later : PreparedFrame
held_later = prepared (index_kind log_table pow_table) opening_energies index_sheet after_lost

pub record HeldIndexed : Type 0 where
  pub mark : after_lost.concealment.erased ≡ pos 1
  pub accepted : call_outcome (index_kind log_table pow_table) index_sheet after_lost 160 ≡ Ok tt
  pub pitch : map (λ (s : SubframeInputs). s.pitch) held_later.inputs.subframes ≡ replicate 4 (pos 0)
  pub frame_accepted : call_outcome frame_kind (decoded_sheet log_table pow_table opening_energies index_sheet after_lost) after_lost 160 ≡ Ok tt
  pub trace :
      without_energies (call_trace (index_kind log_table pow_table) opening_energies index_sheet after_lost out)
      ≡ call_trace frame_kind [] (decoded_sheet log_table pow_table opening_energies index_sheet after_lost) after_lost out

-- ---- a list of all three kinds of calls: an erased one; one of stage 7 that brings one energy, which is refused; an index call; a frame call
abbrev pub stage_7 : Call
stage_7 = erased_sheet_call (pos 100000 ∷ []) (erased_sheet (pos 7)) out

abbrev pub later_calls : List Call
later_calls = index_sheet_call log_table pow_table opening_energies index_sheet out ∷ frame_sheet_call good_sheet out ∷ []

abbrev pub ErasedList : Type 0
ErasedList = TwoCalls silent lost_call stage_7 later_calls (trace_of silent lost_call).places AsPlaced AsPlaced AsPlaced AsPlaced
