-- `convert` meets its contract: each polynomial of degree 5 fills its six coefficients, and the row is made of the two.
use Rattle.std.proofs.Common.{rules, sym, ap₂, ◌∙◌, take_all}
use Rattle.lpc.specs.Rows.{row, row_of}
use Rattle.lpc.proofs.convert.Goals as goal

pub returns : goal.returns
unfolding row_of
returns c =
    let f = c.polynomial-f in
    let g = c.polynomial-g in
    rw (← c.every_second.ensures, ← c.every_second-2.ensures) (c.row.ensures ∙ ap₂ row (sym (take_all 6 f.result (search rules)) ∙ f.ensures) (sym (take_all 6 g.result (search rules)) ∙ g.ensures))
