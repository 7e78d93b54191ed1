-- The shift report, whole, of the bench program's whole input: docs/BENCH.md, "Shift report".
use Rattle.std.specs.Prelude.{◌≡◌, if◌then◌else◌, List, [], map, ℕ, ◌+◌, ◌*◌, ◌/◌, ◌<◌, ◌≤◌, ◌==◌, pos, length, take, drop, replicate, codes}
use Rattle.lists.specs.Lists.{selected}
use Rattle.state.specs.declared.State.{State}
use Rattle.outcome.specs.Outcome.{number_of, is_accepted}
use Rattle.coding.specs.Bytes.{words}
use Rattle.record.specs.Record.{read_call}
use Rattle.mr74.specs.Frame.{Trace}
use Rattle.kinds.specs.Kind.{FrameSheet}
use Rattle.calls.specs.Calls.{Call, trace_of, run_calls}
use Rattle.lines.specs.Lines.{decimal, field, last, state_line}
use Rattle.sheets.specs.Sheets.{record_bytes, sheet_bytes, sheets_of}
use Rattle.shift_report.specs.declared.Totals.{Totals}
use Rattle.shift_report.specs.Totals.{totals_of}

-- ---- the calls
-- at most 65,535 sheets are read
abbrev pub sheet_limit : ℕ
sheet_limit = 65535

-- the whole ones among the first k sheets of the bytes after the record: a cut one counts in neither column
unfoldable pub whole_sheets : ℕ → List ℕ → List (List ℕ)
whole_sheets k bytes = selected (λ (sheet : List ℕ). length sheet == sheet_bytes) (take k (sheets_of bytes))

-- the frame call of a sheet's bytes, with 160 zeros lent
abbrev pub call_of : List ℕ → Call
call_of sheet = record { kind = FrameSheet; energies = []; sheet = words sheet; out = replicate 160 (pos 0) }

-- its trace, with the state s
abbrev pub sheet_trace : State → List ℕ → Trace
sheet_trace s sheet = trace_of s (call_of sheet)

-- the traces of the calls of at most k sheets, the first of them with the state s
unfoldable pub sheet_traces : ℕ → State → List ℕ → List Trace
sheet_traces k s bytes = run_calls s (map call_of (whole_sheets k bytes))

-- ---- the line
-- the mean of n numbers by their sum, rounded down
unfoldable pub mean_of : ℕ → ℕ → ℕ
mean_of sum n = sum / n

abbrev pub none_word : List ℕ
none_word = codes "none"

-- the mean, and `none` where there is no number
unfoldable pub mean_field : ℕ → ℕ → List ℕ
mean_field sum n = if n == 0 then none_word else decimal (mean_of sum n)

-- accepted sheets, refused sheets, retried subframes, sum of squares, mean peak of the accepted sheets
unfoldable pub report_line : Totals → List ℕ
report_line t =
    field (decimal t.accepted)
    (field (decimal t.refused) (field (decimal t.retried) (field (decimal t.squares) (last (mean_field t.peaks t.accepted)))))

-- ---- of a record, as far as it came, and sheets; of a bad or short record the bench program's line for it, and nothing more
unfoldable pub report_output : List ℕ → List ℕ
report_output input =
    let a = (read_call (take record_bytes input)).answer in
    if is_accepted a.outcome
    then report_line (totals_of (sheet_traces sheet_limit a.state (drop record_bytes input)))
    else state_line (number_of a.outcome)

-- ---- theorems: `mean_floor` in proofs/Means.antt, `unread` in proofs/Unread.antt
-- n times the mean is at most the sum, and n times one more is above it
abbrev pub MeanFloor : Type 0
MeanFloor = (sum n : ℕ) → 0 < n → (n * mean_of sum n ≤ sum) × (sum < n * (mean_of sum n + 1))

-- what comes after the record and 65,535 sheets does not count
abbrev pub Unread : Type 0
Unread = (input : List ℕ) → report_output (take (record_bytes + sheet_limit * sheet_bytes) input) ≡ report_output input
