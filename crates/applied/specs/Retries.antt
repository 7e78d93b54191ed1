-- An index frame and an erased frame, each with subframes that are retried and one or two that are not, computed; and every clause of the theorem over lists of calls
-- taken out at each of them and at a refused call of its kind after it. The theorems are `index_retries` and `erased_retries` in proofs/Retries.antt.
use Rattle.std.specs.Prelude.{◌≡◌, Ok, true, List, [], ◌∷◌, ◌++◌, ℤ, pos, negsuc, length, replicate, ◌≤ℤ◌}
use Rattle.lists.specs.Lists.{minus, at, Every}
use Rattle.gain.specs.Call.{opening_energies}
use Rattle.state.specs.declared.State.{State}
use Rattle.state.specs.State.{WellFormed, state_outcome}
use Rattle.state.specs.Layout.{state_of}
use Rattle.kinds.specs.Kind.{index_kind, erased_kind}
use Rattle.kinds.specs.Prepass.{prepared}
use Rattle.mr74.specs.Divisions.{divisions_of}
use Rattle.calls.specs.Calls.{Call, trace_of, run_calls, state_after, latest_place}
use Rattle.applied.specs.Examples.{index_sheet_call, erased_sheet_call, silent, Seen, seen, lag, quotient}
use Rattle.applied.specs.CallList.{RetriedIn, Unretried, TwoCalls}
use Rattle.applied.specs.Gains.{log_table, pow_table}
use Rattle.applied.specs.Indexed.{frequencies, out, tableless_call}
use Rattle.applied.specs.Erased.{stage_7}

abbrev pub pulse : List ℤ
pulse = pos 8191 ∷ replicate 39 (pos 0)

-- ---- an index frame from the state `silent`: pitch indices 18, 0, 7, 22; gain indices 127, 127, 78, 127; one pulse, and then 8191 throughout; energies of 10000
abbrev pub loud_energies : List ℤ
loud_energies = replicate 4 (pos 10000)

unfoldable pub loud_index : List ℤ
loud_index = frequencies ++ ((pos 18 ∷ pos 0 ∷ pos 7 ∷ pos 22 ∷ []) ++ ((pos 127 ∷ pos 127 ∷ pos 78 ∷ pos 127 ∷ []) ++ (pulse ++ replicate 120 (pos 8191))))

abbrev pub loud_index_call : Call
loud_index_call = index_sheet_call log_table pow_table loud_energies loud_index out

-- the first, the second and the last subframe are retried, by their samples 2, 0 and 36
abbrev pub index_seen : Seen
index_seen =
    record {
      accepted = true;
      lags = lag 25 (pos 1) ∷ lag 19 (pos 1) ∷ lag 22 (minus 1) ∷ lag 27 (minus 1) ∷ [];
      places = 2 ∷ 0 ∷ 40 ∷ 36 ∷ [];
      tilts = pos 25275 ∷ pos 935 ∷ pos 1469 ∷ pos 2399 ∷ [];
      quotients =
          quotient 16383 17313 ∷ quotient 16384 22792 ∷ quotient 10267 30180 ∷ quotient 23387 22141
          ∷ quotient 25275 32767 ∷ quotient 16384 32767 ∷ quotient 935 806 ∷ quotient 20987 23481
          ∷ quotient 1469 602 ∷ quotient 19112 17217 ∷ quotient 2399 519 ∷ quotient 16024 27872 ∷ [];
      sharpening = pos 13017;
      gain = pos 4130;
      newest = pos 5464;
    }

abbrev pub index_calls : List Call
index_calls = loud_index_call ∷ tableless_call ∷ []

pub record IndexRetries : Type 0 where
  pub call : seen (trace_of silent loud_index_call) ≡ index_seen
  -- the energies of the four rows, the last subframe's first
  pub energies : (trace_of silent loud_index_call).energies ≡ pos 18494 ∷ pos 9221 ∷ pos 18494 ∷ pos 18494 ∷ []
  pub list : TwoCalls silent loud_index_call tableless_call [] (2 ∷ 0 ∷ 40 ∷ 36 ∷ []) (RetriedIn 2) (RetriedIn 0) Unretried (RetriedIn 36)
  -- the condition of `past` is met
  pub latest : latest_place 40 (run_calls silent index_calls) ≡ 36
  pub past : length (state_after silent index_calls).core.past ≡ 154
  pub past_range : Every (λ (z : ℤ). (negsuc 8191 ≤ℤ z) × (z ≤ℤ pos 8191)) (state_after silent index_calls).core.past
  pub newest : at (state_after silent index_calls).core.past 153 ≡ pos 5464
  -- EveryDivision: by the cases that divide it reaches twelve
  pub divisions : divisions_of (prepared (index_kind log_table pow_table) loud_energies loud_index silent).inputs silent ≡ 12

-- ---- an erased frame of stage 1, from a state with gains: zeros but for the last lag 19, fives of 16384 and of 20000, and past gains of as much; one pulse, no
-- innovation, 8191 throughout, 2000 throughout
abbrev pub voiced_numbers : List ℤ
voiced_numbers =
    replicate 197 (pos 0)
    ++ (pos 19 ∷ (replicate 5 (pos 16384) ++ (replicate 5 (pos 20000) ++ (pos 16384 ∷ pos 20000 ∷ pos 0 ∷ pos 0 ∷ pos 0 ∷ []))))

unfoldable pub voiced : State
voiced = state_of voiced_numbers

unfoldable pub loud_erased : List ℤ
loud_erased = frequencies ++ (pos 1 ∷ (pulse ++ (replicate 40 (pos 0) ++ (replicate 40 (pos 8191) ++ replicate 40 (pos 2000)))))

abbrev pub loud_erased_call : Call
loud_erased_call = erased_sheet_call opening_energies loud_erased out

-- the first and the last subframe are retried, by their samples 2 and 29; three of the four subframes' enhancements divide
abbrev pub erased_seen : Seen
erased_seen =
    record {
      accepted = true;
      lags = lag 20 (pos 0) ∷ lag 21 (pos 0) ∷ lag 22 (pos 0) ∷ lag 23 (pos 0) ∷ [];
      places = 2 ∷ 40 ∷ 40 ∷ 29 ∷ [];
      tilts = pos 25275 ∷ pos 935 ∷ pos 1469 ∷ pos 2399 ∷ [];
      quotients =
          quotient 16384 23438 ∷ quotient 16384 27002 ∷ quotient 24069 22305
          ∷ quotient 25275 32767 ∷ quotient 16384 32767 ∷ quotient 935 806 ∷ quotient 20235 20076
          ∷ quotient 1469 602 ∷ quotient 12591 23641 ∷ quotient 2399 519 ∷ quotient 16012 28105 ∷ [];
      sharpening = pos 13017;
      gain = pos 4122;
      newest = pos 4886;
    }

abbrev pub erased_calls : List Call
erased_calls = loud_erased_call ∷ stage_7 ∷ []

pub record ErasedRetries : Type 0 where
  -- what is asked of the opening state
  pub well_formed : WellFormed voiced
  pub state : state_outcome voiced ≡ Ok tt
  pub call : seen (trace_of voiced loud_erased_call) ≡ erased_seen
  -- stepped four times
  pub energies : (trace_of voiced loud_erased_call).energies ≡ replicate 4 (minus 8192)
  pub list : TwoCalls voiced loud_erased_call stage_7 [] (2 ∷ 40 ∷ 40 ∷ 29 ∷ []) (RetriedIn 2) Unretried Unretried (RetriedIn 29)
  pub latest : latest_place 40 (run_calls voiced erased_calls) ≡ 29
  pub past : length (state_after voiced erased_calls).core.past ≡ 154
  pub past_range : Every (λ (z : ℤ). (negsuc 8191 ≤ℤ z) × (z ≤ℤ pos 8191)) (state_after voiced erased_calls).core.past
  pub newest : at (state_after voiced erased_calls).core.past 153 ≡ pos 4886
  pub divisions : divisions_of (prepared erased_kind opening_energies loud_erased voiced).inputs voiced ≡ 11
