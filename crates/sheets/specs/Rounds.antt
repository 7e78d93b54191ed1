-- The rounds of a program over the sheets of its input.
use Rattle.std.specs.Prelude.{List, [], ◌∷◌, ℕ, zero, suc, Option, Some, None, take, drop}
use Rattle.sheets.specs.Sheets.{sheet_bytes}
use Rattle.sheets.specs.declared.Step.{Step}

-- what the steps of at most k rounds make, in order: a round reads as many bytes as a sheet has, or what is left of the input, and takes a step on them, with
-- what the one before carried to it; after a step that carries nothing on there is none
unfoldable pub rounds : {A C : Type 0} → (C → List ℕ → Step A C) → ℕ → Option C → List ℕ → List A
rounds step zero next input = []
rounds step (suc k) None input = []
rounds step (suc k) (Some carried) input =
    let r = step carried (take sheet_bytes input) in
    r.made ∷ rounds step k r.next (drop sheet_bytes input)
