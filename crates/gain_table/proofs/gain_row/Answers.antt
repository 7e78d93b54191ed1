-- `gain_row` meets its contract: the row at an index, which the test of every row has passed.
use Rattle.gain_table.specs.Rows.{gain_row, gain_table}
use Rattle.gain_table.proofs.Ranges.{row_ranges}
use Rattle.gain_table.proofs.gain_row.Goals as goal

pub returns-clause-range : goal.returns-clause-range
unfolding gain_row gain_table
returns-clause-range c = row_ranges c.args.index c.requires
