-- `pow2` meets its contract: each step is the definition's, and the position of a fraction that is not negative lies in the table.
use Rattle.std.proofs.Common.{◌≡◌, ◌∙◌, w16, w32, to_z-of_z}
use Rattle.lists.proofs.Signed.{back, got}
use Rattle.basicop.proofs.Ints.{arith_ℤ}
use Rattle.basicop.proofs.Tables.{has_next}
use Rattle.logarithm.specs.Pow2.{power_position}
use Rattle.logarithm.proofs.Powers.{power_within, power_found}
use Rattle.logarithm.proofs.pow2.Goals as goal
use Rattle.logarithm.proofs.pow2.Goals.{After-locate}

position : (c : After-locate) → c.locate.result ≡ power_position c.args.fraction
position c = rw (got w32 c.l_mult.type_inv (rw (to_z-of_z c.ranges.fraction) at c.l_mult.ensures)) at c.locate.ensures

pub interpolate-between-requires : goal.interpolate-between-requires
interpolate-between-requires c =
    rw (position c) (has_next c.args.table.now (power_within c.args.fraction c.requires (omega (arith_ℤ, c.ranges.fraction))) c.told-table)

pub returns : goal.returns
returns c =
    let count = rw (to_z-of_z c.ranges.exponent) at c.sub.ensures in
    let shifted = rw (back w32 c.interpolate-between.type_inv, got w16 c.sub.type_inv count) at c.l_shr_r.ensures in
    got w32 c.l_shr_r.type_inv shifted
    ∙ power_found c.args.table.now c.args.exponent c.args.fraction c.interpolate-between.result (rw (position c.before.before.before) at c.interpolate-between.ensures)
