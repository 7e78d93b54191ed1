-- `locate` meets its contract: the halves of L_Extract are the high word and the low 15 bits of x >> 1.
use Rattle.std.proofs.Common.{rules, w16, to_z-of_z}
use Rattle.lists.proofs.Signed.{back, got}
use Rattle.basicop.proofs.Tables.{halves}
use Rattle.basicop.proofs.interpolation.locate.Goals as goal

pub returns : goal.returns
returns c =
    rw (got w16 c.sub.type_inv c.sub.ensures, back w16 {z = c.l_extract-halves.result.hi} (search rules), back w16 {z = c.l_extract-halves.result.lo} (search rules), to_z-of_z c.ranges.base)
    (halves c.args.base c.args.x c.l_extract-halves.result c.ranges.x (rw (to_z-of_z c.ranges.x) at c.l_extract-halves.ensures))
