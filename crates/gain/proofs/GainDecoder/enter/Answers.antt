-- `enter` meets its contract: the energy first, then the three newest.
use Rattle.std.proofs.Common.{◌≡◌, ap, List, ◌∷◌, ℕ, ℤ, pos, length, take, w16, SFits, to_z-of_z, rules}
use Rattle.lists.specs.Lists.{at}
use Rattle.lists.proofs.Entries.{four_entries}
use Rattle.lists.proofs.Signed.{entry_fits}
use Rattle.gain.proofs.GainDecoder.enter.Goals as goal

pub returns : goal.returns
returns c =
    let energies = c.args.self.energies in
    let energy : SFits w16 c.args.energy.0 = search rules in
    let each : (k : ℕ) → SFits w16 (at energies k) = λ k. search (rules, entry_fits) in
    let four : length energies ≡ 4 = search rules in
    rw (to_z-of_z energy, to_z-of_z (each 0), to_z-of_z (each 1), to_z-of_z (each 2)) (ap (λ (xs : List ℤ). c.args.energy.0 ∷ take 3 xs) (four_entries (pos 0) energies four))
