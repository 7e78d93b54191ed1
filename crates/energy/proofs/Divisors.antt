-- Every divisor of agc2 and agc lies in 16384..=32767, for samples of any size and number.
use Rattle.std.proofs.Common.{◌≡◌, refl, Bool, true, false, List, [], ℤ, pos}
use Rattle.lists.specs.Lists.{eq_z, Every}
use Rattle.lists.proofs.Entries.{every_append}
use Rattle.basicop.specs.Ops.{div_s}
use Rattle.basicop.specs.Divided.{Divided, Divides}
use Rattle.energy.specs.Energy.{energy}
use Rattle.energy.specs.Gain.{energy_gain, agc2, agc}
use Rattle.energy.specs.declared.Controlled.{Controlled}
use Rattle.energy.proofs.Tests.{not_zero, either}
use Rattle.energy.proofs.Sums.{Energetic, energy_range}
use Rattle.energy.proofs.Gains.{gain_in_range}

abbrev Each : {A : Type 0} → Divided A → Type 0
Each m = Every (Divides 16384) m.quotients

by_test : (out into : ℤ) → Energetic into → (t : Bool) → eq_z into (pos 0) ≡ t → Each (energy_gain out into)
unfolding energy_gain div_s
by_test out into e true z = rw z tt
by_test out into e false z =
    let r = gain_in_range into (not_zero into e.from z) e.fits in
    rw z (record { from = r.0; to = r.1 }, tt)

pub gain_divisors : (out into : ℤ) → Energetic into → Every (Divides 16384) (energy_gain out into).quotients
gain_divisors out into e = by_test out into e (eq_z into (pos 0)) refl

pub agc2_divisors : (into out : List ℤ) → Every (Divides 16384) (agc2 into out).quotients
unfolding agc2
agc2_divisors into out =
    either (Each {A = List ℤ}) (eq_z (energy out) (pos 0)) tt
    (every_append (Divides 16384) (energy_gain (energy out) (energy into)).quotients [] (gain_divisors (energy out) (energy into) (energy_range into)) tt)

pub agc_divisors : (gain : ℤ) (into out : List ℤ) → Every (Divides 16384) (agc gain into out).quotients
unfolding agc
agc_divisors gain into out =
    either (Each {A = Controlled}) (eq_z (energy out) (pos 0)) tt
    (every_append (Divides 16384) (energy_gain (energy out) (energy into)).quotients [] (gain_divisors (energy out) (energy into) (energy_range into)) tt)
