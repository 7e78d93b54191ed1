-- `recorded::rows_same` meets its contract: `==` decides whether two frames' rows are the same, row by row.
use Rattle.std.proofs.Math.Bool.{and-true}
use Rattle.std.specs.Cmp.Rules.{signed_items}
use Rattle.std.proofs.lemmas.Slice.Eq.{slice_eq-Decides}
use Rattle.lpc.specs.Rows.{row_list}
use Rattle.recorded.proofs.compare.rows_same.Goals as goal

pub returns : goal.returns
returns c =
    slice_eq-Decides signed_items (row_list c.args.recorded) (row_list c.args.rows) c.eq.result (simp and-true c.eq.ensures)
