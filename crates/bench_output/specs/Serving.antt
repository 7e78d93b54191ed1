-- What the program reads and writes, where it is known what the input has left and what the output holds.
use Rattle.std.specs.Prelude.{◌≡◌, List, ℕ, Option}
use Rattle.std.specs.Io.KnownBytes.{Appends}
use Rattle.state.specs.declared.State.{State}
use Rattle.sheets.specs.Sheets.{sheet_bytes, step_result}
use Rattle.sheets.specs.Reading.{TakesFirst}
use Rattle.bench_output.specs.declared.Carried.{Carried}
use Rattle.bench_output.specs.Steps.{numbered, sheet_step}

-- the next sheet was read as far as it came, and what the step on it makes was written; `next` is the state for the sheet after it, where there is one
abbrev pub ServesSheet : Option (List ℕ) → Option (List ℕ) → Option (List ℕ) → Option (List ℕ) → Carried → Option State → Type 0
ServesSheet input rest old new c next =
    (came line : List ℕ) × TakesFirst input rest sheet_bytes came × Appends old new line × (numbered c (step_result line next) ≡ sheet_step c came)
