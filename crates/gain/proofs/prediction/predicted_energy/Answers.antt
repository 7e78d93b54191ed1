-- `predicted_energy` meets its contract: the energies by the coefficients, newest first.
use Rattle.std.proofs.Common.{refl, ℕ, w16, w32, SFits, to_z-of_z, rules}
use Rattle.lists.specs.Lists.{at, iter}
use Rattle.lists.proofs.Signed.{got, entry_fits}
use Rattle.gain.proofs.prediction.predicted_energy.Goals as goal

pub returns : goal.returns
unfolding iter
returns c =
    let each : (k : ℕ) → SFits w16 (at c.args.energies k) = λ k. search (rules, entry_fits) in
    rw (got w32 c.l_mac-3.type_inv c.l_mac-3.ensures, got w32 c.l_mac-2.type_inv c.l_mac-2.ensures, got w32 c.l_mac.type_inv c.l_mac.ensures, got w32 c.l_mac-newest.type_inv c.l_mac-newest.ensures, got w32 c.below_mean.type_inv c.below_mean.ensures)
    (rw (to_z-of_z (each 0), to_z-of_z (each 1), to_z-of_z (each 2), to_z-of_z (each 3)) refl)
