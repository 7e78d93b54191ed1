-- What a read does to an input of which it is known what it has left, and where an error comes from.
use Rattle.std.specs.Prelude.{◌≡◌, ◌≢◌, List, ℕ, Option, Some, None, take, drop}
use Rattle.std.specs.declared.io.Error.{Error}
use Rattle.std.specs.declared.io.ErrorKind.TheVariants.{Interrupted}
use Rattle.std.specs.IoError.{error_kind}
use Rattle.sheets.specs.declared.ProgramError.{ProgramError}
use Rattle.sheets.specs.declared.ProgramError.TheVariants.{Read, Write}

-- the first k bytes that were left came, or all where there were fewer, and the others are left still
abbrev pub TakesFirst : Option (List ℕ) → Option (List ℕ) → ℕ → List ℕ → Type 0
TakesFirst None new k came = Unit {0}
TakesFirst (Some xs) None k came = ⊥
TakesFirst (Some xs) (Some ys) k came = (came ≡ take k xs) × (ys ≡ drop k xs)

-- a read failed, and no signal interrupted it
abbrev pub IsOfRead : ProgramError → Type 0
IsOfRead e = (error : Error) × (e ≡ Read error) × (error_kind error ≢ Interrupted)

-- a write failed
abbrev pub IsOfWrite : ProgramError → Type 0
IsOfWrite e = (error : Error) × (e ≡ Write error)
