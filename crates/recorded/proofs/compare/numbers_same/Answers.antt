-- `recorded::numbers_same` meets its contract: `==` decides whether numbers are the same.
use Rattle.std.proofs.lemmas.Bool.Decides.{Decides-int_eq}
use Rattle.std.proofs.lemmas.Slice.Eq.{slice_eq-Decides}
use Rattle.recorded.proofs.compare.numbers_same.Goals as goal

pub returns : goal.returns
returns c = slice_eq-Decides Decides-int_eq c.args.recorded.now c.args.numbers.now c.eq.result c.eq.ensures
