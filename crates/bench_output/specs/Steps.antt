-- The program's steps, one for each sheet that it reads, and what they come to together. The theorem is `steps_output` in proofs/Steps.antt, which `laws` in
-- src/lib.rt ensures.
use Rattle.std.specs.Prelude.{◌≡◌, if◌then◌else◌, List, [], ◌++◌, ℕ, ◌+◌, ◌≤◌, ◌*◌, ◌==◌, length, take, drop, Some, None, option_map}
use Rattle.lists.specs.Parts.{joined}
use Rattle.state.specs.declared.State.{State}
use Rattle.lines.specs.Lines.{cut_line}
use Rattle.sheets.specs.declared.Step.{Step}
use Rattle.sheets.specs.Sheets.{record_bytes, sheet_bytes, sheet_call, step_result, opening_step}
use Rattle.sheets.specs.Rounds.{rounds}
use Rattle.bench_output.specs.declared.Carried.{Carried}
use Rattle.bench_output.specs.Output.{answer_line, bench_output}

-- what is carried to the sheet of number n
abbrev pub carried : ℕ → State → Carried
carried n s = record { number = n; state = s }

-- of what was read of the next sheet: nothing, a whole sheet, or some of one
unfoldable pub sheet_step : Carried → List ℕ → Step (List ℕ) Carried
sheet_step c bytes =
    let k = sheet_call bytes c.state in
    if length bytes == 0
    then step_result [] None
    else if length bytes == sheet_bytes
    then step_result (answer_line c.number k) (Some (carried (c.number + 1) k.answer.next))
    else step_result (cut_line c.number) None

-- a step that gives the state for the next sheet, with the number of that sheet
abbrev pub numbered : Carried → Step (List ℕ) State → Step (List ℕ) Carried
numbered c r = step_result r.made (option_map (carried (c.number + 1)) r.next)

-- what the program prints: of the record, and of at most so many rounds over the sheets after it, the first of them with number 1
unfoldable pub program_output : ℕ → List ℕ → List ℕ
program_output k input =
    let r = opening_step (take record_bytes input) in
    r.made ++ joined (rounds sheet_step k (option_map (carried 1) r.next) (drop record_bytes input))

-- of any input, with rounds enough for it, the program prints `bench_output`
abbrev pub StepsOutput : Type 0
StepsOutput = (k : ℕ) (input : List ℕ) → length input ≤ k * sheet_bytes → program_output k input ≡ bench_output input
