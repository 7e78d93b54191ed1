-- `average` meets its contract: the sum clamps at each energy, newest first; a quarter of it, at least -14336.
use Rattle.std.proofs.Common.{refl, ℕ, w16, SFits, to_z-of_z, rules}
use Rattle.lists.specs.Lists.{at, iter}
use Rattle.lists.proofs.Signed.{got, entry_fits}
use Rattle.gain.specs.Gain.{average_energy}
use Rattle.gain.proofs.Results.{at_least}
use Rattle.gain.proofs.GainDecoder.average.Goals as goal

pub returns : goal.returns
unfolding iter average_energy
returns c =
    let each : (k : ℕ) → SFits w16 (at c.args.self.energies k) = λ k. search (rules, entry_fits) in
    rw (got w16 c.max.type_inv c.max.ensures.value, got w16 c.mult.type_inv c.mult.ensures, got w16 c.add-sum.type_inv c.add-sum.ensures, got w16 c.add-3.type_inv c.add-3.ensures, got w16 c.add-2.type_inv c.add-2.ensures, got w16 c.add.type_inv c.add.ensures)
    (rw (to_z-of_z (each 0), to_z-of_z (each 1), to_z-of_z (each 2), to_z-of_z (each 3), at_least) refl)
