-- The bench program's output, whole, of its whole input: docs/BENCH.md, "Bench program".
use Rattle.std.specs.Prelude.{if◌then◌else◌, List, [], ◌∷◌, ◌++◌, map, ℕ, ◌+◌, ◌==◌, length, take, drop}
use Rattle.decoder.specs.Subframe.{flag_of}
use Rattle.state.specs.declared.State.{State}
use Rattle.outcome.specs.Outcome.{number_of, place_of, is_accepted}
use Rattle.record.specs.Record.{read_call}
use Rattle.mr74.specs.Frame.{CallResult}
use Rattle.lines.specs.Lines.{peak_of, frame_line, refused_line, cut_line, state_line}
use Rattle.sheets.specs.Sheets.{record_bytes, sheet_bytes, sheets_of, sheet_call}

-- the line of a call, for the sheet of number n
unfoldable pub answer_line : ℕ → CallResult → List ℕ
answer_line n k =
    let a = k.answer in
    if is_accepted a.outcome
    then frame_line n (map flag_of a.places) (peak_of k.lent)
    else refused_line n (number_of a.outcome) (place_of a.outcome)

-- the lines of the sheets from number n on, the first of them with the state s, each after it with the state that the one before gave back, which for
-- a refused sheet is the state before; a short last sheet is cut
unfoldable pub sheet_lines : ℕ → State → List (List ℕ) → List ℕ
sheet_lines n s [] = []
sheet_lines n s (sheet ∷ sheets) =
    let k = sheet_call sheet s in
    if length sheet == sheet_bytes then answer_line n k ++ sheet_lines (n + 1) k.answer.next sheets else cut_line n

-- a record, as far as it came, and sheets, numbered from 1; of a bad or short record `state refused` and the number, and nothing more
unfoldable pub bench_output : List ℕ → List ℕ
bench_output input =
    let a = (read_call (take record_bytes input)).answer in
    if is_accepted a.outcome then sheet_lines 1 a.state (sheets_of (drop record_bytes input)) else state_line (number_of a.outcome)
