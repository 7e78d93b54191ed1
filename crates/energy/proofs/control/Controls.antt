-- agc2 and agc by the test of the output's energy.
use Rattle.std.proofs.Common.{◌≡◌, List, map, ℕ, suc, ℤ, pos, length, ◌<ℤ◌}
use Rattle.lists.specs.Lists.{at, tab}
use Rattle.energy.specs.Energy.{energy}
use Rattle.energy.specs.Gain.{energy_gain, scaled_by, target, smoothed, controlled, agc2, agc}
use Rattle.energy.specs.declared.Controlled.{Controlled}
use Rattle.energy.proofs.Tests.{above_zero}

-- sample k of agc
abbrev pub sample_of : ℤ → ℤ → List ℤ → ℕ → ℤ
sample_of goal gain out k = scaled_by (smoothed goal (suc k) gain) (at out k)

pub controlled_is : (goal gain g : ℤ) (out r : List ℤ) (n : ℕ) → length out ≡ n → r ≡ tab (sample_of goal gain out) n → g ≡ smoothed goal n gain → ◌≡◌ {A = Controlled} (record { samples = r; control = record { previous_gain = g } }) (controlled goal gain out)
unfolding controlled
controlled_is goal gain g out r n l e h = rw (l, e, h)

-- ---- by the test of the output's energy: it is 0, or above 0
pub agc2_none : (into out : List ℤ) → energy out ≡ pos 0 → out ≡ (agc2 into out).value
unfolding agc2
agc2_none into out h = rw h

pub agc2_some : (into out : List ℤ) → pos 0 <ℤ energy out → map (scaled_by (energy_gain (energy out) (energy into)).value) out ≡ (agc2 into out).value
unfolding agc2
agc2_some into out p = rw (above_zero (energy out) p)

-- an output energy of 0 leaves the samples and sets the smoothed gain to 0 (docs/BENCH.md, "Energy")
pub agc_none : (gain : ℤ) (into out : List ℤ) → energy out ≡ pos 0 → ◌≡◌ {A = Controlled} (record { samples = out; control = record { previous_gain = pos 0 } }) (agc gain into out).value
unfolding agc
agc_none gain into out h = rw h

pub agc_some : (gain : ℤ) (into out : List ℤ) → pos 0 <ℤ energy out → controlled (target (energy_gain (energy out) (energy into)).value) gain out ≡ (agc gain into out).value
unfolding agc
agc_some gain into out p = rw (above_zero (energy out) p)
