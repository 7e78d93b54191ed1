-- `log2` meets its contract: each step is the definition's, and the position that a number above 0 is normalised to lies in the table.
use Rattle.std.proofs.Common.{◌≡◌, pos, w16, w32, to_z, of_z, to_z-of_z}
use Rattle.lists.proofs.Signed.{back, got}
use Rattle.basicop.specs.Ops.{norm_l}
use Rattle.basicop.proofs.Tests.{at_most_no}
use Rattle.basicop.proofs.Tables.{has_next}
use Rattle.logarithm.specs.Log2.{log_position}
use Rattle.logarithm.proofs.Logarithms.{log_none, log_found, log_within}
use Rattle.logarithm.proofs.log2.Goals as goal
use Rattle.logarithm.proofs.log2.Goals.{After-norm_l-n, After-locate}

pub returns-then-value-le0 : goal.returns-then-value-le0
returns-then-value-le0 c = log_none c.args.table.now c.args.value (rw (to_z-of_z c.ranges.value) at c.if-value-le0.true)

count : (c : After-norm_l-n) → to_z w16 (of_z w16 c.norm_l-n.result) ≡ norm_l c.args.value
count c = got w16 c.norm_l-n.type_inv (rw (to_z-of_z c.ranges.value) at c.norm_l-n.ensures)

position : (c : After-locate) → c.locate.result ≡ log_position c.args.value
position c =
    let normalized = rw (to_z-of_z c.ranges.value, count c.before.before.before.before) at c.l_shl-normalized.ensures in
    let shifted = rw (got w32 c.l_shl-normalized.type_inv normalized) at c.l_shr.ensures in
    rw (got w32 c.l_shr.type_inv shifted) at c.locate.ensures

pub interpolate-between-requires : goal.interpolate-between-requires
interpolate-between-requires c =
    let above = at_most_no c.args.value (pos 0) (rw (to_z-of_z c.ranges.value) at c.if-value-le0.false) in
    rw (position c) (has_next c.args.table.now (log_within c.args.value above c.ranges.value) c.told-table)

pub returns : goal.returns
returns c =
    let b = c.before.before in
    let exponent = rw (count b.before.before.before.before.before) at c.sub.ensures in
    let fraction = rw (back w32 c.interpolate-between.type_inv) at c.extract_h.ensures in
    rw (got w16 c.sub.type_inv exponent, got w16 c.extract_h.type_inv fraction)
    (log_found c.args.table.now c.args.value c.interpolate-between.result (rw (to_z-of_z c.ranges.value) at c.if-value-le0.false) (rw (position b.before) at c.interpolate-between.ensures))
