-- `capi::laws`: the theorems of these names.
use Rattle.capi.proofs.Unchanged.{refused_unchanged, gain_unchanged}
use Rattle.capi.proofs.Lengths.{other_sheet, other_output, other_table}
use Rattle.capi.proofs.laws.Goals as goal

pub returns : goal.returns
returns c = record { refused = refused_unchanged; gain = gain_unchanged; sheet = other_sheet; output = other_output; table = other_table }
