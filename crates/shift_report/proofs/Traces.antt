-- The traces of the calls of an input's sheets, one by one.
use Rattle.std.proofs.Common.{ℕ, zero, suc, ◌<◌, ◌≤◌, ◌≡◌, refl, ◌∙◌, List, [], ◌∷◌, arith, eq-eqb, ne_eqb, length, take, drop, length-take, length-drop}
use lib.Seq.{take-nil}
use Rattle.state.specs.declared.State.{State}
use Rattle.mr74.specs.Frame.{CallResult, result_of, frame_call}
use Rattle.calls.specs.Calls.{run_calls}
use Rattle.sheets.specs.Sheets.{sheet_call}
use Rattle.sheets.proofs.Pieces.{sheets_none, sheets_more}
use Rattle.shift_report.specs.Report.{whole_sheets, sheet_trace, sheet_traces}

-- the frame call of a sheet's bytes gives what its trace has
pub sheet_call-trace : (s : State) (bytes : List ℕ) → sheet_call bytes s ≡ result_of (sheet_trace s bytes)
unfolding sheet_call frame_call
sheet_call-trace s bytes = refl

pub traces_none : (s : State) (bytes : List ℕ) → sheet_traces 0 s bytes ≡ []
unfolding sheet_traces whole_sheets run_calls
traces_none s bytes = refl

pub traces_more : (k : ℕ) (s : State) (bytes : List ℕ) → 364 ≤ length bytes
    → sheet_traces (suc k) s bytes ≡ sheet_trace s (take 364 bytes) ∷ sheet_traces k (sheet_trace s (take 364 bytes)).next (drop 364 bytes)
unfolding sheet_traces whole_sheets run_calls
traces_more k s bytes h = rw (sheets_more bytes (omega (arith, h)), eq-eqb (length (take 364 bytes)) 364 (length-take 364 bytes ∙ omega (arith, h))) refl

traces_cut : (k : ℕ) (s : State) (bytes : List ℕ) → 0 < length bytes → length bytes < 364 → sheet_traces (suc k) s bytes ≡ []
unfolding sheet_traces whole_sheets run_calls
traces_cut k s bytes l h =
    rw (sheets_more bytes l, ne_eqb (length (take 364 bytes)) 364 (λ e. omega (arith, length-take 364 bytes, e, h)), sheets_none (drop 364 bytes) (length-drop 364 bytes ∙ omega (arith, h)), take-nil k) refl

traces_empty : (k : ℕ) (s : State) (bytes : List ℕ) → length bytes ≡ 0 → sheet_traces (suc k) s bytes ≡ []
unfolding sheet_traces whole_sheets run_calls
traces_empty k s bytes e = rw (sheets_none bytes e) refl

pub traces_short : (k : ℕ) (s : State) (bytes : List ℕ) → length bytes < 364 → sheet_traces k s bytes ≡ []
traces_short zero s bytes h = traces_none s bytes
traces_short (suc k) s [] h = traces_empty k s [] refl
traces_short (suc k) s (b ∷ bytes) h = traces_cut k s (b ∷ bytes) (omega arith) h
