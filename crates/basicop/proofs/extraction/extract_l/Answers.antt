-- `extract_l` meets its contract: the residue, read as signed.
use Rattle.std.proofs.Common.{◌∙◌, w16, w32, to_z-of_z}
use Rattle.lists.proofs.Signed.{got}
use Rattle.basicop.proofs.Wrap.{wrap_read}
use Rattle.basicop.proofs.extraction.extract_l.Goals as goal

pub returns : goal.returns
returns c =
    let residue = rw (to_z-of_z c.ranges.x) at (got w32 c.residue.type_inv c.residue.ensures) in
    got w16 c.cast_signed.type_inv (rw residue at c.cast_signed.ensures ∙ wrap_read w16 c.args.x)
