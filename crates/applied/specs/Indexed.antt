-- A frame call of an index sheet, computed; the theorems of mr74/specs/Indexed.antt and kinds/specs/Accepted.antt applied to it; and the theorem over lists of calls
-- applied to a list that begins with it, from the state `silent`. The theorems are in proofs/Indexed.antt.
use Rattle.std.specs.Prelude.{◌≡◌, Ok, true, List, [], ◌∷◌, ◌++◌, ℕ, ℤ, pos, ◌+ℤ◌, replicate, set, ◌≤ℤ◌}
use Rattle.lists.specs.Lists.{at}
use Rattle.state.specs.declared.State.{State}
use Rattle.outcome.specs.Outcome.{number_of, place_of, is_accepted}
use Rattle.gain.specs.Call.{opening_energies}
use Rattle.kinds.specs.Kind.{frame_kind, index_kind, call_outcome}
use Rattle.mr74.specs.Frame.{call_trace, frame_call, index_call, EnergiesResult}
use Rattle.mr74.specs.Indexed.{decoded_sheet, without_energies}
use Rattle.state.specs.Layout.{state_of}
use Rattle.calls.specs.Calls.{Call, trace_of}
use Rattle.applied.specs.Examples.{index_sheet_call, silent, silent_numbers}
use Rattle.applied.specs.CallList.{AsPlaced, TwoCalls}
use Rattle.applied.specs.Gains.{log_table, pow_table, falling, negative}
use Rattle.applied.specs.Refusals.{Refusal, refused, zeros_then, lowest}

-- ---- an index sheet: LSFs at even distances; pitch indices 4, 6, 18, 22; gain indices 121, 63, 92, 78; the innovation is 2000 at the start of subframes 1, 2
-- and 3, and 0 elsewhere
abbrev pub frequencies : List ℤ
frequencies = pos 1400 ∷ pos 2800 ∷ pos 4200 ∷ pos 5600 ∷ pos 7000 ∷ pos 8400 ∷ pos 9800 ∷ pos 11200 ∷ pos 12600 ∷ pos 14000 ∷ []

abbrev pub pitch_indices : List ℤ
pitch_indices = pos 4 ∷ pos 6 ∷ pos 18 ∷ pos 22 ∷ []

abbrev pub innovation : List ℤ
innovation = set (set (set (replicate 160 (pos 0)) 40 (pos 2000)) 80 (pos 2000)) 120 (pos 2000)

unfoldable pub index_sheet : List ℤ
index_sheet = frequencies ++ (pitch_indices ++ ((pos 121 ∷ pos 63 ∷ pos 92 ∷ pos 78 ∷ []) ++ innovation))

abbrev pub out : List ℤ
out = replicate 160 (pos 0)

abbrev pub indexed : EnergiesResult
indexed = index_call log_table pow_table opening_energies index_sheet silent out

-- the frame sheet with the gains so obtained
unfoldable pub gains_sheet : List ℤ
gains_sheet =
    frequencies
    ++ (pitch_indices
    ++ ((pos 21318 ∷ pos 32767 ∷ pos 10300 ∷ pos 1413 ∷ pos 14406 ∷ pos 5278 ∷ pos 13714 ∷ pos 13485 ∷ [])
    ++ innovation))

-- the energies of the four rows, the last subframe's first
abbrev pub energies_left : List ℤ
energies_left = pos 9221 ∷ pos 7413 ∷ pos 12853 ∷ pos 5816 ∷ []

pub record IndexedValues : Type 0 where
  pub accepted : call_outcome (index_kind log_table pow_table) index_sheet silent 160 ≡ Ok tt
  pub sheet : decoded_sheet log_table pow_table opening_energies index_sheet silent ≡ gains_sheet
  pub energies : indexed.answer.gain_decoder.energies ≡ energies_left

-- ---- of IndexIsFrame: outcome, rows, places, samples and next state are the frame call's
pub record IndexedApplied : Type 0 where
  pub frame_accepted : call_outcome frame_kind gains_sheet silent 160 ≡ Ok tt
  pub trace :
      without_energies (call_trace (index_kind log_table pow_table) opening_energies index_sheet silent out) ≡ call_trace frame_kind [] gains_sheet silent out
  pub outcome : indexed.answer.frame.outcome ≡ (frame_call gains_sheet silent out).answer.outcome
  pub rows : indexed.answer.frame.rows ≡ (frame_call gains_sheet silent out).answer.rows
  pub places : indexed.answer.frame.places ≡ (frame_call gains_sheet silent out).answer.places
  pub next : indexed.answer.frame.next ≡ (frame_call gains_sheet silent out).answer.next
  pub samples : indexed.lent ≡ (frame_call gains_sheet silent out).lent
  -- AcceptedExactly: of a sheet that begins with these two LSFs, and of tables that begin with these numbers
  pub shown :
      (x y u v w : ℤ) (rest logs pows : List ℤ) (s : State)
      → is_accepted (call_outcome (index_kind (u ∷ logs) (v ∷ w ∷ pows)) (x ∷ y ∷ rest) s 160) ≡ true
      → (pos 205 ≤ℤ x) × ((x +ℤ pos 205) ≤ℤ y) × (pos 0 ≤ℤ u) × (v ≤ℤ w)
  pub indices :
      (sheet logs pows : List ℤ) (s : State) → is_accepted (call_outcome (index_kind logs pows) sheet s 160) ≡ true → (pos 0 ≤ℤ at sheet 14) × (at sheet 17 ≤ℤ pos 127)

-- ---- the order 1, 5, 2, 6, 3, 7, 8, 16 to 19: each call meets its check and all those after it; the last meets none
abbrev pub refusal_with : List ℤ → List ℤ → List ℤ → List ℤ → ℕ → Refusal
refusal_with logs pows sheet numbers room =
    let o = call_outcome (index_kind logs pows) sheet (state_of numbers) room in
    refused (number_of o) (place_of o)

unfoldable pub index_ordered : List Refusal
index_ordered =
    refusal_with negative falling (zeros_then 0 182) (zeros_then 0 213) 159
    ∷ refusal_with negative falling (zeros_then 0 178) (zeros_then 0 213) 159
    ∷ refusal_with negative falling (zeros_then 0 178) (zeros_then 0 213) 160
    ∷ refusal_with negative falling (zeros_then 10 178) (zeros_then 0 213) 160
    ∷ refusal_with negative falling (lowest ++ zeros_then 0 168) (zeros_then 0 213) 160
    ∷ refusal_with negative falling (lowest ++ zeros_then 4 168) (zeros_then 0 213) 160
    ∷ refusal_with log_table falling (lowest ++ zeros_then 4 168) (zeros_then 0 213) 160
    ∷ refusal_with log_table pow_table (lowest ++ zeros_then 4 168) (zeros_then 0 213) 160
    ∷ refusal_with log_table pow_table (lowest ++ zeros_then 7 168) (zeros_then 0 213) 160
    ∷ refusal_with log_table pow_table (lowest ++ (replicate 6 (pos 0) ++ (pos 128 ∷ replicate 161 (pos 0)))) (zeros_then 0 213) 160
    ∷ refusal_with log_table pow_table (lowest ++ zeros_then 8 168) (zeros_then 0 213) 160
    ∷ refusal_with log_table pow_table (lowest ++ zeros_then 8 168) (zeros_then 165 213) 160
    ∷ refusal_with log_table pow_table (lowest ++ zeros_then 8 168) (zeros_then 197 213) 160
    ∷ refusal_with log_table pow_table (lowest ++ zeros_then 8 168) (zeros_then 213 213) 160
    ∷ refusal_with log_table pow_table (lowest ++ zeros_then 8 168) silent_numbers 160
    ∷ []

abbrev pub IndexOrder : Type 0
IndexOrder =
    index_ordered
    ≡ refused 1 0 ∷ refused 5 0 ∷ refused 2 0 ∷ refused 6 0 ∷ refused 3 0 ∷ refused 7 0 ∷ refused 7 1 ∷ refused 8 0 ∷ refused 8 3 ∷ refused 8 2
    ∷ refused 16 0 ∷ refused 17 0 ∷ refused 18 198 ∷ refused 19 197 ∷ refused 0 0 ∷ []

-- ---- a list with two index calls: this one, and one whose tables have no number and whose energies are others, which is refused
abbrev pub tabled_call : Call
tabled_call = index_sheet_call log_table pow_table opening_energies index_sheet out

abbrev pub tableless_call : Call
tableless_call = index_sheet_call [] [] (pos 1 ∷ pos 100000 ∷ []) index_sheet out

abbrev pub IndexedList : Type 0
IndexedList = TwoCalls silent tabled_call tableless_call [] (trace_of silent tabled_call).places AsPlaced AsPlaced AsPlaced AsPlaced
