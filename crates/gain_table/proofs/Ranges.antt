-- The ranges of the table, by one test of every row.
use Rattle.std.proofs.Common.{Bool, ◌&&◌, List, [], ℕ, ◌<◌, arith, T, eqb, eqb→eq, ℤ, pos, length, ◌≤ℤ◌}
use lib.Signed.{le_z, le_z_yes}
use Rattle.std.proofs.lemmas.Int.{ints}
use Rattle.lists.specs.Lists.{minus, at}
use Rattle.lists.proofs.Table.{both_pass, each_entry}
use Rattle.gain_table.specs.Rows.{gain_table, gain_row}
use Rattle.gain_table.specs.Ranges.{RowRange}

between : ℤ → ℤ → ℤ → Bool
between from to x = le_z from x && le_z x to

between_yes : (from to x : ℤ) → T (between from to x) → (from ≤ℤ x) × (x ≤ℤ to)
unfolding between
between_yes from to x t = let b = both_pass (le_z from x) (le_z x to) t in (le_z_yes b.0, le_z_yes b.1)

-- the one test, of each row at its index
ruled : ℕ → List ℤ → Bool
ruled index row = eqb (length row) 3 && (between (pos 577) (pos 21318) (at row 0) && (between (pos 662) (pos 32764) (at row 1) && between (minus 16214) (pos 18494) (at row 2)))

tested : (index : ℕ) → index < 128 → T (ruled index (gain_row (pos index)))
unfolding gain_row gain_table ruled between
tested index h = each_entry ruled gain_table [] tt index h

pub row_ranges : (index : ℕ) → index < 128 → RowRange (gain_row (pos index))
unfolding ruled
row_ranges index h =
    let row = gain_row (pos index) in
    let a = both_pass (eqb (length row) 3) _ (tested index h) in
    let b = both_pass (between (pos 577) (pos 21318) (at row 0)) _ a.1 in
    let c = both_pass (between (pos 662) (pos 32764) (at row 1)) _ b.1 in
    let pitch = between_yes (pos 577) (pos 21318) (at row 0) b.0 in
    let correction = between_yes (pos 662) (pos 32764) (at row 1) c.0 in
    let energy = between_yes (minus 16214) (pos 18494) (at row 2) c.1 in
    record {
      three = eqb→eq (length row) 3 a.0;
      pitch = (omega (arith, ints, pitch.0), omega (arith, ints, pitch.1));
      correction = (omega (arith, ints, correction.0), omega (arith, ints, correction.1));
      energy = (omega (arith, ints, energy.0), omega (arith, ints, energy.1));
    }
