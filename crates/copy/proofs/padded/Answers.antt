-- `padded` meets its contract: what follows the numbers was 0 before they were copied.
use Rattle.std.proofs.Common.{pos, length, ap₂, ◌++◌}
use Rattle.std.proofs.lemmas.List.{drop-replicate}
use Rattle.copy.proofs.padded.Goals as goal

pub returns : goal.returns
returns g c = ap₂ ◌++◌ c.copy_from_slice.ensures.after (drop-replicate (length c.args.numbers.now) g.row.N (pos 0))
