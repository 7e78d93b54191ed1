-- Where the postfilter divides, by what comes to each subframe: no quotient is asked.
use Rattle.std.specs.Prelude.{Bool, List, [], ◌∷◌, map, ℕ, ℤ, pos}
use Rattle.std.specs.Int.Signed.{lt_z}
use Rattle.lists.specs.Lists.{iter}
use Rattle.lpc.specs.declared.Rows.{Rows}
use Rattle.energy.specs.Divisions.{gain_divides}
use Rattle.postfilter.specs.declared.Postfilter.{Postfilter}
use Rattle.postfilter.specs.Tilt.{r1, response}
use Rattle.postfilter.specs.Postfilter.{resynthesised, row_at, part, process_next, process_from}

-- the tilt of a row: the high word of the correlation is above 0
abbrev pub tilt_divides : List ℤ → Bool
tilt_divides a = lt_z (pos 0) (r1 (response a))

-- the gain control of subframe k, with the memory that the subframes before it left
abbrev pub memory_at : Postfilter → Rows → List ℤ → ℕ → Postfilter
memory_at m rows ys k = (iter (process_next rows ys) k (process_from m)).output.memory

abbrev pub control_divides : Postfilter → Rows → List ℤ → ℕ → Bool
control_divides m rows ys k = gain_divides (part ys k) (resynthesised (memory_at m rows ys k) (row_at rows k) (part ys k))

-- of each subframe
abbrev pub subframes : List ℕ
subframes = 0 ∷ 1 ∷ 2 ∷ 3 ∷ []

abbrev pub tilts_divide : Rows → List Bool
tilts_divide rows = map (λ (k : ℕ). tilt_divides (row_at rows k)) subframes

abbrev pub controls_divide : Postfilter → Rows → List ℤ → List Bool
controls_divide m rows ys = map (control_divides m rows ys) subframes
