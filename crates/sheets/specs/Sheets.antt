-- What a program of the bench reads: a version 1 record, then sheets one by one. docs/BENCH.md, "Bench program".
use Rattle.std.specs.Prelude.{if◌then◌else◌, List, [], ℕ, ◌+◌, ◌/◌, pos, length, replicate, Option, Some, None}
use Rattle.lists.specs.Parts.{cut}
use Rattle.state.specs.declared.State.{State}
use Rattle.outcome.specs.Outcome.{number_of, is_accepted}
use Rattle.coding.specs.Bytes.{words}
use Rattle.record.specs.Record.{first, read_call}
use Rattle.mr74.specs.Frame.{CallResult, frame_call}
use Rattle.lines.specs.Lines.{state_line}
use Rattle.sheets.specs.declared.Step.{Step}

-- the record's bytes: 402, those of a version 1 record
abbrev pub record_bytes : ℕ
record_bytes = first.distance + 8

-- a sheet's bytes
abbrev pub sheet_bytes : ℕ
sheet_bytes = 364

-- the sheets in the bytes after the record: as many as there are, the last one as far as it came
unfoldable pub sheets_of : List ℕ → List (List ℕ)
sheets_of bytes = cut (replicate ((length bytes + 363) / 364) sheet_bytes) bytes

-- the frame call of a sheet's bytes, with 160 zeros lent
unfoldable pub sheet_call : List ℕ → State → CallResult
sheet_call bytes s = frame_call (words bytes) s (replicate 160 (pos 0))

-- a step of a program makes something, and carries something to the next one, where there is a next one
abbrev pub step_result : {A C : Type 0} → A → Option C → Step A C
step_result made next = record { made = made; next = next }

-- the first step, on the record as far as it came: an accepted one makes no line, and its state is carried on; a refused one is told, and nothing comes after it
unfoldable pub opening_step : List ℕ → Step (List ℕ) State
opening_step bytes =
    let a = (read_call bytes).answer in
    if is_accepted a.outcome then step_result [] (Some a.state) else step_result (state_line (number_of a.outcome)) None
