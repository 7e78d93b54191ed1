-- What the table's 384 numbers lie in (docs/BENCH.md, "Gains from an index"): `gain_row` ensures it of each row that it gives.
use Rattle.std.specs.Prelude.{◌≡◌, List, ℤ, pos, length, ◌≤ℤ◌}
use Rattle.lists.specs.Lists.{minus, at}

-- three numbers: pitch gain, correction, energy
pub record RowRange (row : List ℤ) : Type 0 where
  pub three : length row ≡ 3
  pub pitch : (pos 577 ≤ℤ at row 0) × (at row 0 ≤ℤ pos 21318)
  pub correction : (pos 662 ≤ℤ at row 1) × (at row 1 ≤ℤ pos 32764)
  pub energy : (minus 16214 ≤ℤ at row 2) × (at row 2 ≤ℤ pos 18494)
