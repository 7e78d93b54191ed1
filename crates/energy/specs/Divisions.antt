-- Where agc2 and agc divide, by the energies alone: no quotient is asked.
use Rattle.std.specs.Prelude.{Bool, not, ◌&&◌, List, ℤ, pos}
use Rattle.lists.specs.Lists.{eq_z}
use Rattle.energy.specs.Energy.{energy}

-- neither energy is 0
abbrev pub gain_divides : List ℤ → List ℤ → Bool
gain_divides into out = not (eq_z (energy out) (pos 0)) && not (eq_z (energy into) (pos 0))
