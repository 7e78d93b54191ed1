-- The tilt of Post_Filter of TS 26.073 (TS 26.090, 6.2.1), from the impulse response of the weighted filters. It depends on the coefficient row alone.
use Rattle.std.specs.Prelude.{if◌then◌else◌, List, ◌++◌, ℕ, suc, ◌-◌, ℤ, pos, length, replicate}
use Rattle.std.specs.Int.Signed.{le_z}
use Rattle.lists.specs.Lists.{at, iter}
use Rattle.basicop.specs.Ops.{mult, l_mac, extract_h}
use Rattle.basicop.specs.Divided.{Divided, undivided, divided}
use Rattle.energy.specs.Energy.{squares}
use Rattle.synthesis.specs.Synthesis.{samples}
use Rattle.postfilter.specs.Weight.{numerator, denominator, weighted}

-- h: 22 samples (L_H), the numerator's row and eleven zeros through Syn_filt with the denominator's row, from zero memory
unfoldable pub impulse : List ℤ → List ℤ → List ℤ
impulse num den = samples 10 den (num ++ replicate 11 (pos 0)) (replicate 10 (pos 0))

-- L_mac over h[0] h[1], h[1] h[2], .. from 0: the first is L_mult
abbrev pub correlation_step : List ℤ → ℕ → ℤ → ℤ
correlation_step h k s = l_mac s (at h k) (at h (suc k))

unfoldable pub correlation : List ℤ → ℤ
correlation h = iter (correlation_step h) (length h - 1) (pos 0)

abbrev pub r0 : List ℤ → ℤ
r0 h = extract_h (squares h)

abbrev pub r1 : List ℤ → ℤ
r1 h = extract_h (correlation h)

-- 0 where r1 is 0 or less; else r1 by MU (0.8 in Q15), divided by r0
unfoldable pub tilt_of : List ℤ → Divided ℤ
tilt_of h = if le_z (r1 h) (pos 0) then undivided (pos 0) else divided (mult (r1 h) (pos 26214)) (r0 h)

-- of a row
abbrev pub response : List ℤ → List ℤ
response a = impulse (weighted a numerator) (weighted a denominator)

unfoldable pub tilt : List ℤ → Divided ℤ
tilt a = tilt_of (response a)
