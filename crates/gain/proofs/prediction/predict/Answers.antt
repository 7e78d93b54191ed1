-- `predict` meets its contract: the predicted energy by the mode's factor, in two halves.
use Rattle.std.proofs.Common.{refl, w16, w32, SFits, to_z-of_z, rules}
use Rattle.lists.proofs.Signed.{got}
use Rattle.gain.specs.Gain.{predicted_gain}
use Rattle.gain.proofs.prediction.predict.Goals as goal

pub returns : goal.returns
unfolding predicted_gain
returns c =
    let hi : SFits w16 c.l_extract-halves.result.hi = search rules in
    let lo : SFits w16 c.l_extract-halves.result.lo = search rules in
    rw (to_z-of_z hi, to_z-of_z lo, c.l_extract-halves.ensures, got w32 c.l_shr.type_inv c.l_shr.ensures, got w32 c.l_mult.type_inv c.l_mult.ensures, got w16 c.extract_h-gain.type_inv c.extract_h-gain.ensures, got w32 c.predicted_energy.type_inv c.predicted_energy.ensures) refl
