-- For the functions: what one call adds, what lets totals be added, and what the program reads, where it is known what the input has left.
use Rattle.std.specs.Prelude.{◌≡◌, ◌+◌, ◌≤◌, List, [], ◌∷◌, ℕ, ℤ, Option, length}
use Rattle.std.specs.Io.KnownBytes.{Consumes}
use Rattle.outcome.specs.Outcome.{Outcome}
use Rattle.mr74.specs.Frame.{Trace}
use Rattle.state.specs.declared.State.{State}
use Rattle.sheets.specs.declared.Step.{Step}
use Rattle.sheets.specs.Sheets.{sheet_bytes}
use Rattle.sheets.specs.Reading.{TakesFirst}
use Rattle.shift_report.specs.declared.Totals.{Totals}
use Rattle.shift_report.specs.Totals.{totals_of}
use Rattle.shift_report.specs.Report.{sheet_limit}
use Rattle.shift_report.specs.Steps.{step_of, sheets_counted, Bounded}

-- the totals of one call, of any trace with this outcome, these places and this output
abbrev pub CountsCall : Outcome → List ℕ → List ℤ → Totals → Type 0
CountsCall outcome places samples r = (t : Trace) → outcome ≡ t.outcome → places ≡ t.places → samples ≡ t.output → r ≡ totals_of (t ∷ [])

-- both bounded, and of no more sheets than are read
abbrev pub FitTogether : Totals → Totals → Type 0
FitTogether a b = Bounded a × Bounded b × (sheets_counted a + sheets_counted b ≤ sheet_limit)

-- a sheet was read as far as it came, and r is the step on it, with the state s
abbrev pub ReadsSheet : Option (List ℕ) → Option (List ℕ) → State → Step Totals State → Type 0
ReadsSheet input rest s r = (came : List ℕ) × TakesFirst input rest sheet_bytes came × (r ≡ step_of s came)

-- at most so many bytes were read
abbrev pub TakesAtMost : Option (List ℕ) → Option (List ℕ) → ℕ → Type 0
TakesAtMost input rest most = (came : List ℕ) × Consumes input rest came × (length came ≤ most)
