-- `scaled_ratio` meets its contract: the calls are the definition's.
use Rattle.std.proofs.Common.{w16, w32, to_z-of_z}
use Rattle.lists.proofs.Signed.{got}
use Rattle.basicop.proofs.Range.{widened}
use Rattle.energy.proofs.gain.scaled_ratio.Goals as goal

pub returns : goal.returns
returns c =
    rw (got w32 c.l_shl.type_inv c.l_shl.ensures, widened w16 w32 c.args.quotient c.ranges.quotient tt, to_z-of_z c.ranges.exponent) at (got w32 c.l_shr.type_inv c.l_shr.ensures)
