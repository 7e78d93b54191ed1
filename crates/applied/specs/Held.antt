-- Gains that are held, from a version 1 record of zeros (docs/BENCH.md, "Erased frames"): a good frame, an erased one, and a good one, whose gains are held each to the last
-- good ones before it; a good one after that, which has its own. An index frame whose gains are held. And lags at the end of their range. By other rules the numbers are
-- others. The theorems are in proofs/Held.antt.
use Rattle.std.specs.Prelude.{◌≡◌, Ok, true, List, [], ◌∷◌, ◌++◌, map, ℤ, pos, replicate}
use Rattle.lists.specs.Lists.{minus}
use Rattle.pitch.specs.Lag.{Lag}
use Rattle.decoder.specs.Inputs.{SubframeInputs}
use Rattle.gain.specs.Call.{opening_energies}
use Rattle.state.specs.declared.State.{State}
use Rattle.state.specs.Layout.{concealment_numbers, state_of}
use Rattle.kinds.specs.Kind.{frame_kind, index_kind, erased_kind, call_outcome}
use Rattle.kinds.specs.Prepass.{prepared}
use Rattle.mr74.specs.Frame.{call_trace}
use Rattle.mr74.specs.Indexed.{decoded_sheet, without_energies}
use Rattle.calls.specs.Calls.{Call, trace_of, next_state, accepted}
use Rattle.applied.specs.Examples.{frame_sheet_call, erased_sheet_call, silent, lag}
use Rattle.applied.specs.Gains.{log_table, pow_table}
use Rattle.applied.specs.Refusals.{fields_with}
use Rattle.applied.specs.Indexed.{frequencies, pitch_indices, innovation, index_sheet, out}
use Rattle.applied.specs.Erased.{subframe, subframes}

-- ---- frames without innovation: a good one of lag 20 and eight gains, pitch and code in turn; an erased one of stage 2
unfoldable pub still_good : List ℤ → List ℤ
still_good gains = frequencies ++ ((pos 2 ∷ pos 2 ∷ pos 2 ∷ pos 2 ∷ []) ++ (gains ++ replicate 160 (pos 0)))

unfoldable pub still_erased : List ℤ
still_erased = frequencies ++ (pos 2 ∷ replicate 160 (pos 0))

abbrev pub steady : Call
steady = frame_sheet_call (still_good (pos 8000 ∷ pos 300 ∷ pos 8000 ∷ pos 300 ∷ pos 8000 ∷ pos 300 ∷ pos 8000 ∷ pos 300 ∷ [])) out

abbrev pub missed : Call
missed = erased_sheet_call opening_energies still_erased out

unfoldable pub changing_sheet : List ℤ
changing_sheet = still_good (pos 9000 ∷ pos 200 ∷ pos 7000 ∷ pos 400 ∷ pos 9000 ∷ pos 100 ∷ pos 8000 ∷ pos 50 ∷ [])

abbrev pub changing : Call
changing = frame_sheet_call changing_sheet out

-- the states that they leave, one after another
abbrev pub after_steady : State
after_steady = next_state silent steady

abbrev pub after_missed : State
after_missed = next_state after_steady missed

abbrev pub after_changing : State
after_changing = next_state after_missed changing

pub record HeldGains : Type 0 where
  pub steady_accepted : accepted (trace_of silent steady) ≡ true
  pub missed_accepted : accepted (trace_of after_steady missed) ≡ true
  pub changing_accepted : accepted (trace_of after_missed changing) ≡ true
  -- the erased frame's gains, and that the last good ones stay: last lag, fives, past gains, last good gains, the mark
  pub missed_subframes :
      subframes (prepared erased_kind opening_energies still_erased after_steady)
      ≡ subframe 21 7839 293 ∷ subframe 22 7682 287 ∷ subframe 23 7528 281 ∷ subframe 24 7377 275 ∷ []
  pub missed_fields :
      concealment_numbers after_missed.concealment
      ≡ pos 24
      ∷ ((pos 8000 ∷ pos 7839 ∷ pos 7682 ∷ pos 7528 ∷ pos 7377 ∷ [])
      ++ ((pos 300 ∷ pos 293 ∷ pos 287 ∷ pos 281 ∷ pos 275 ∷ [])
      ++ (pos 7377 ∷ pos 275 ∷ pos 8000 ∷ pos 300 ∷ pos 1 ∷ [])))
  -- of 9000 200, 7000 400, 9000 100, 8000 50: each pair held to the one that was used before it, the first to the last good one
  pub held :
      subframes (prepared frame_kind [] changing_sheet after_missed)
      ≡ subframe 20 8000 200 ∷ subframe 20 7000 200 ∷ subframe 20 7000 100 ∷ subframe 20 7000 50 ∷ []
  pub held_fields :
      concealment_numbers after_changing.concealment
      ≡ pos 20
      ∷ ((pos 7377 ∷ pos 8000 ∷ pos 7000 ∷ pos 7000 ∷ pos 7000 ∷ [])
      ++ ((pos 275 ∷ pos 200 ∷ pos 200 ∷ pos 100 ∷ pos 50 ∷ [])
      ++ (pos 7000 ∷ pos 50 ∷ pos 7000 ∷ pos 50 ∷ pos 0 ∷ [])))
  -- the same sheet after that good frame has its own
  pub own :
      subframes (prepared frame_kind [] changing_sheet after_changing)
      ≡ subframe 20 9000 200 ∷ subframe 20 7000 400 ∷ subframe 20 9000 100 ∷ subframe 20 8000 50 ∷ []

-- ---- the index sheet of Indexed.antt after an erased frame, with the last good gains 1000 and 32767: the pitch gain that is used, and not the decoded one, sharpens the
-- innovation of the next subframe, so that the later code gains are decoded as others; and they are held to the second's
abbrev pub lowered_numbers : List ℤ
lowered_numbers = replicate 197 (pos 0) ++ (pos 40 ∷ (replicate 12 (pos 0) ++ (pos 1000 ∷ pos 32767 ∷ pos 1 ∷ [])))

unfoldable pub lowered : State
lowered = state_of lowered_numbers

unfoldable pub lowered_sheet : List ℤ
lowered_sheet =
    frequencies
    ++ (pitch_indices
    ++ ((pos 21318 ∷ pos 32767 ∷ pos 10300 ∷ pos 1802 ∷ pos 14406 ∷ pos 6221 ∷ pos 13714 ∷ pos 17182 ∷ [])
    ++ innovation))

pub record HeldIndex : Type 0 where
  pub accepted : call_outcome (index_kind log_table pow_table) index_sheet lowered 160 ≡ Ok tt
  pub decoded : decoded_sheet log_table pow_table opening_energies index_sheet lowered ≡ lowered_sheet
  pub held :
      subframes (prepared (index_kind log_table pow_table) opening_energies index_sheet lowered)
      ≡ record { lag = lag 21 (minus 1); pitch = pos 1000; code = pos 32767 }
      ∷ record { lag = lag 21 (pos 1); pitch = pos 1000; code = pos 1802 }
      ∷ record { lag = lag 25 (pos 1); pitch = pos 1000; code = pos 1802 }
      ∷ record { lag = lag 27 (minus 1); pitch = pos 1000; code = pos 1802 }
      ∷ []
  -- IndexIsFrame: the frame call of the sheet with these gains, which holds them again
  pub frame_accepted : call_outcome frame_kind lowered_sheet lowered 160 ≡ Ok tt
  pub trace :
      without_energies (call_trace (index_kind log_table pow_table) opening_energies index_sheet lowered out) ≡ call_trace frame_kind [] lowered_sheet lowered out
  -- the energies are those of the indices
  pub energies : (prepared (index_kind log_table pow_table) opening_energies index_sheet lowered).energies ≡ pos 9221 ∷ pos 7413 ∷ pos 12853 ∷ pos 5816 ∷ []

-- ---- the lags of an erased frame after the last lags 141, 143 and 144: 143 is not passed, and what is there already stays
abbrev pub lagging : ℤ → State
lagging t = state_of (fields_with t (pos 0) (pos 0) (pos 0))

abbrev pub lags_after : ℤ → List Lag
lags_after t = map (λ (s : SubframeInputs). s.lag) (prepared erased_kind opening_energies still_erased (lagging t)).inputs.subframes

abbrev pub last_after : ℤ → ℤ
last_after t = (prepared erased_kind opening_energies still_erased (lagging t)).concealment.last_lag

pub record LastLags : Type 0 where
  pub accepted : call_outcome erased_kind still_erased (lagging (pos 144)) 160 ≡ Ok tt
  pub from_141 : lags_after (pos 141) ≡ lag 142 (pos 0) ∷ lag 143 (pos 0) ∷ lag 143 (pos 0) ∷ lag 143 (pos 0) ∷ []
  pub from_143 : lags_after (pos 143) ≡ lag 143 (pos 0) ∷ lag 143 (pos 0) ∷ lag 143 (pos 0) ∷ lag 143 (pos 0) ∷ []
  pub from_144 : lags_after (pos 144) ≡ lag 144 (pos 0) ∷ lag 144 (pos 0) ∷ lag 144 (pos 0) ∷ lag 144 (pos 0) ∷ []
  pub last_143 : last_after (pos 143) ≡ pos 143
  pub last_144 : last_after (pos 144) ≡ pos 144
