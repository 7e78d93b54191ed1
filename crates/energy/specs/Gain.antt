-- agc2 and agc of TS 26.073 (TS 26.090, 6.1 and 6.2.1): samples are brought to the energy of others, by one gain, or by a gain that is smoothed
-- from sample to sample.
use Rattle.std.specs.Prelude.{if◌then◌else◌, List, map, ℕ, suc, ℤ, pos, length}
use Rattle.lists.specs.Lists.{eq_z, at, iter, tab}
use Rattle.basicop.specs.Ops.{add, sub, mult, l_mult, l_shl, l_shr, extract_h, round, norm_l}
use Rattle.basicop.specs.Divided.{Divided, undivided, divided, after}
use Rattle.energy.specs.Energy.{energy}
use Rattle.energy.specs.Root.{inverse_root}
use Rattle.energy.specs.declared.Controlled.{Controlled}
use Rattle.energy.specs.declared.GainControl.{GainControl}

-- ---- the gain (Q12) from the energy out to the energy into
-- exp: norm_l of the energy, with one bit to spare
abbrev pub exp_out : ℤ → ℤ
exp_out s = sub (norm_l s) (pos 1)

abbrev pub gain_out : ℤ → ℤ
gain_out s = round (l_shl s (exp_out s))

abbrev pub gain_in : ℤ → ℤ
gain_in s = round (l_shl s (norm_l s))

-- from the quotient q of the two: out / into with its exponent (Q22), and its inverse root, rounded
abbrev pub ratio : ℤ → ℤ → ℤ → ℤ
ratio out into q = l_shr (l_shl q (pos 7)) (sub (exp_out out) (norm_l into))

abbrev pub gain_from : ℤ → ℤ → ℤ → ℤ
gain_from out into q = round (l_shl (inverse_root (ratio out into q)) (pos 9))

-- 0 where into is 0
unfoldable pub energy_gain : ℤ → ℤ → Divided ℤ
energy_gain out into =
    if eq_z into (pos 0)
    then undivided (pos 0)
    else after (divided (gain_out out) (gain_in into)) (λ (q : ℤ). undivided (gain_from out into q))

-- a sample by a gain
abbrev pub scaled_by : ℤ → ℤ → ℤ
scaled_by gain x = extract_h (l_shl (l_mult x gain) (pos 3))

-- ---- agc2: out is brought to the energy of into. Where its own energy is 0 nothing happens
unfoldable pub agc2 : List ℤ → List ℤ → Divided (List ℤ)
agc2 into out =
    if eq_z (energy out) (pos 0)
    then undivided out
    else after (energy_gain (energy out) (energy into)) (λ (gain : ℤ). undivided (map (scaled_by gain) out))

-- ---- agc, with a factor of 29491 (0.9 in Q15)
abbrev pub target : ℤ → ℤ
target gain = mult gain (sub (pos 32767) (pos 29491))

-- the gain of a sample from that of the sample before it, and after n samples
abbrev pub smooth : ℤ → ℤ → ℤ
smooth goal gain = add (mult gain (pos 29491)) goal

abbrev pub smoothed : ℤ → ℕ → ℤ → ℤ
smoothed goal n gain = iter (λ (k : ℕ). smooth goal) n gain

-- sample k has the gain after k + 1 samples
unfoldable pub controlled : ℤ → ℤ → List ℤ → Controlled
controlled goal gain out =
    record {
      samples = tab (λ (k : ℕ). scaled_by (smoothed goal (suc k) gain) (at out k)) (length out);
      control = record { previous_gain = smoothed goal (length out) gain };
    }

-- An output energy of 0 leaves the samples and sets the gain to 0
unfoldable pub agc : ℤ → List ℤ → List ℤ → Divided Controlled
agc gain into out =
    if eq_z (energy out) (pos 0)
    then undivided (record { samples = out; control = record { previous_gain = pos 0 } })
    else after (energy_gain (energy out) (energy into)) (λ (g : ℤ). undivided (controlled (target g) gain out))

-- samples, and the gain control after them
abbrev pub together : List ℤ → GainControl → Controlled
together samples control = record { samples = samples; control = control }
