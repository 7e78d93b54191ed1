-- "The frame call on an index sheet equals that on the frame sheet with the gains so obtained." (docs/BENCH.md, "Gains from an index".)
use Rattle.std.specs.Prelude.{◌≡◌, Ok, Bool, true, List, [], ◌∷◌, ◌++◌, ℕ, suc, ℤ, length, take, drop}
use Rattle.pitch.specs.Lag.{Lag}
use Rattle.state.specs.declared.State.{State}
use Rattle.outcome.specs.Outcome.{is_accepted}
use Rattle.kinds.specs.declared.GainMemory.{GainMemory}
use Rattle.kinds.specs.Sheet.{lags_of}
use Rattle.kinds.specs.Kind.{index_decoded, frame_kind, index_kind, call_outcome}
use Rattle.kinds.specs.Prepass.{kind_step, after_erased, opened_memory}
use Rattle.mr74.specs.Frame.{Trace, call_trace, frame_call, index_call}

-- pitch and code gain of each subframe from k on, as they come from the indices: the frame call holds them as the index call does
abbrev pub decoded_pairs : List ℤ → List ℤ → List ℤ → Bool → ℕ → List Lag → GainMemory → List ℤ
decoded_pairs logs pows sheet erased k [] m = []
decoded_pairs logs pows sheet erased k (lag ∷ lags) m =
    let gains = (index_decoded logs pows sheet k lag m).gains in
    gains.pitch.0 ∷ (gains.code.0 ∷ decoded_pairs logs pows sheet erased (suc k) lags (kind_step (index_kind logs pows) sheet erased k lag m).memory)

-- the frame sheet with these gains in place of the indices
abbrev pub with_gains : List ℤ → List ℤ → List ℤ
with_gains gains sheet = take 14 sheet ++ (gains ++ drop 18 sheet)

abbrev pub decoded_sheet : List ℤ → List ℤ → List ℤ → List ℤ → State → List ℤ
decoded_sheet logs pows energies sheet s =
    with_gains (decoded_pairs logs pows sheet (after_erased s.concealment) 0 (lags_of sheet) (opened_memory energies s)) sheet

-- the trace, but for the energies: a frame sheet's call is lent none
abbrev pub without_energies : Trace → Trace
without_energies t = record t { energies = [] }

-- an accepted index call is the frame call of that sheet, which is accepted: all that is spoken of but the energies, and so outcome, rows, places, next state and
-- samples. The theorem is `index_is_frame` in proofs/Indexed.antt
pub record SameAsFrame (logs pows energies sheet : List ℤ) (s : State) (out : List ℤ) : Type 0 where
  pub accepted : call_outcome frame_kind (decoded_sheet logs pows energies sheet s) s (length out) ≡ Ok tt
  pub trace : without_energies (call_trace (index_kind logs pows) energies sheet s out) ≡ call_trace frame_kind [] (decoded_sheet logs pows energies sheet s) s out
  pub answer : (index_call logs pows energies sheet s out).answer.frame ≡ (frame_call (decoded_sheet logs pows energies sheet s) s out).answer
  pub lent : (index_call logs pows energies sheet s out).lent ≡ (frame_call (decoded_sheet logs pows energies sheet s) s out).lent

abbrev pub IndexIsFrame : Type 0
IndexIsFrame =
    (logs pows energies sheet : List ℤ) (s : State) (out : List ℤ)
    → is_accepted (call_outcome (index_kind logs pows) sheet s (length out)) ≡ true
    → SameAsFrame logs pows energies sheet s out
