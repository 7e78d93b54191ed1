-- The report's steps, one for each sheet that it reads, what they come to together, and the widths of the sums that it carries.
-- The theorems are `step_totals`, `steps_report` (proofs/Steps.antt) and `totals_bounded`, `totals_within` (proofs/Widths.antt).
use Rattle.std.specs.Prelude.{◌≡◌, if◌then◌else◌, List, [], ◌∷◌, ◌++◌, ℕ, ◌+◌, ◌*◌, ◌^◌, ◌<◌, ◌≤◌, ◌==◌, length, take, drop, Option, Some, None}
use Rattle.state.specs.declared.State.{State}
use Rattle.state.specs.State.{WellFormed}
use Rattle.mr74.specs.Frame.{Trace}
use Rattle.calls.specs.Calls.{Call, run_calls}
use Rattle.sheets.specs.declared.Step.{Step}
use Rattle.sheets.specs.Sheets.{record_bytes, sheet_bytes, step_result, opening_step}
use Rattle.sheets.specs.Rounds.{rounds}
use Rattle.shift_report.specs.declared.Totals.{Totals}
use Rattle.shift_report.specs.Totals.{totals_of}
use Rattle.shift_report.specs.Report.{sheet_limit, sheet_trace, report_line, report_output}

-- the totals of two lists together, and of any number of them
unfoldable pub plus : Totals → Totals → Totals
plus a b =
    record {
      accepted = a.accepted + b.accepted;
      refused = a.refused + b.refused;
      retried = a.retried + b.retried;
      squares = a.squares + b.squares;
      peaks = a.peaks + b.peaks;
    }

abbrev pub together : List Totals → Totals
together [] = totals_of []
together (t ∷ ts) = plus t (together ts)

-- ---- the program's steps
-- of what was read of a sheet, with the state s: a whole one makes the totals of its call, whose state is carried on; nothing, or some of one, makes none, and
-- there is no next step
unfoldable pub step_of : State → List ℕ → Step Totals State
step_of s bytes =
    let t = sheet_trace s bytes in
    if length bytes == sheet_bytes then step_result (totals_of (t ∷ [])) (Some t.next) else step_result (totals_of []) None

-- what the program prints: of a refused record its line alone, and else the line of all that the rounds after it make, of which there are at most 65,535
abbrev pub lines_after : Option State → List ℕ → List ℕ
lines_after None rest = []
lines_after (Some s) rest = report_line (together (rounds step_of sheet_limit (Some s) rest))

unfoldable pub program_report : List ℕ → List ℕ
program_report input =
    let r = opening_step (take record_bytes input) in
    r.made ++ lines_after r.next (drop record_bytes input)

-- the totals of a list, and a whole sheet's, are the totals of the list that is longer by its call
abbrev pub StepTotals : Type 0
StepTotals =
    (ts : List Trace) (s : State) (sheet : List ℕ) → length sheet ≡ sheet_bytes
    → plus (totals_of ts) (step_of s sheet).made ≡ totals_of (ts ++ (sheet_trace s sheet ∷ []))

-- of any input the program prints `report_output`
abbrev pub StepsReport : Type 0
StepsReport = (input : List ℕ) → program_report input ≡ report_output input

-- ---- widths
-- the sheets that were counted, accepted and refused
abbrev pub sheets_counted : Totals → ℕ
sheets_counted t = t.accepted + t.refused

-- by the count of accepted calls: of each at most four retried subframes, 160 squares of at most 2 ^ 30, and a peak of at most 32768
pub record Bounded (t : Totals) : Type 0 where
  pub retried : t.retried ≤ 4 * t.accepted
  pub squares : t.squares ≤ 160 * 2 ^ 30 * t.accepted
  pub peaks : t.peaks ≤ 32768 * t.accepted

-- the totals of any list of calls from a well-formed state
abbrev pub TotalsBounded : Type 0
TotalsBounded = (s : State) (cs : List Call) → WellFormed s → Bounded (totals_of (run_calls s cs))

-- of at most 65,535 calls: the sum of squares has 64 bits, and that of the peaks 31
abbrev pub TotalsWithin : Type 0
TotalsWithin =
    (s : State) (cs : List Call) → WellFormed s → length cs ≤ sheet_limit
    → ((totals_of (run_calls s cs)).squares < 2 ^ 64) × ((totals_of (run_calls s cs)).peaks < 2 ^ 31)
