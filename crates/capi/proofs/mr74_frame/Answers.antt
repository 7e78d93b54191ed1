-- `capi::mr74_frame`: the call of any kind, by energies that it does not go by.
use Rattle.std.proofs.Common.{rules}
use Rattle.capi.proofs.Energies.{any_energies}
use Rattle.capi.proofs.mr74_frame.Goals as goal

pub returns : goal.returns
returns c = let a = c.args in any_energies a.sheet.now a.state.now a.out.now a.rows.now a.places.now _ (search rules) c.call.ensures
