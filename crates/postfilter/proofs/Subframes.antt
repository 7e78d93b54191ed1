-- A subframe by its steps.
use Rattle.std.proofs.Common.{◌≡◌, List, ◌++◌, ℤ}
use Rattle.lists.specs.Lists.{at}
use Rattle.synthesis.specs.declared.Filtered.{Filtered}
use Rattle.synthesis.specs.Synthesis as synthesis
use Rattle.energy.specs.declared.Controlled.{Controlled}
use Rattle.energy.specs.Gain.{agc}
use Rattle.postfilter.specs.declared.Postfilter.{Postfilter}
use Rattle.postfilter.specs.declared.Postfiltered.{Postfiltered}
use Rattle.postfilter.specs.Weight.{numerator, denominator, weighted}
use Rattle.postfilter.specs.Residual.{residual}
use Rattle.postfilter.specs.Tilt.{impulse, tilt_of, tilt}
use Rattle.postfilter.specs.Preemphasis.{preemphasised}
use Rattle.postfilter.specs.Postfilter.{filter_result}

-- as the code goes: s the second synthesis, g the gain control
pub filtered_by :
    (m : Postfilter) (a ys : List ℤ) {num den fed h : List ℤ} {t last : ℤ} {s : Filtered} {g : Controlled}
    → num ≡ weighted a numerator
    → den ≡ weighted a denominator
    → t ≡ (tilt_of (impulse num den)).value
    → fed ≡ preemphasised t m.previous_residual (residual num (m.input_history ++ ys))
    → last ≡ at (residual num (m.input_history ++ ys)) 39
    → s ≡ synthesis.filtered den fed m.synthesis_history
    → g ≡ (agc m.gain.previous_gain ys s.samples).value
    → h ≡ synthesis.newest 10 ys
    → ◌≡◌ {A = Postfiltered 40} (record { samples = g.samples; memory = record { input_history = h; synthesis_history = s.history; previous_residual = last; gain = g.control } }) (filter_result m a ys).output
unfolding filter_result tilt synthesis.filtered
filtered_by m a ys en ed et ef el es eg eh = rw (eg, es, ef, el, et, en, ed, eh)
