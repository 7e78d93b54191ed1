-- What holds of the tilts and of the divisors: of a row, and of the subframes of a frame.
-- The theorems are `tilted` in proofs/Tilts.antt, for every list, and `framed_any` and `framed_rows` in proofs/Results.antt.
use Rattle.std.specs.Prelude.{◌≡◌, List, ℕ, ℤ, pos, length, ◌≤ℤ◌, ◌<ℤ◌}
use Rattle.lists.specs.Lists.{at, Every}
use Rattle.basicop.specs.Ops.{mult}
use Rattle.basicop.specs.Divided.{Divides}
use Rattle.postfilter.specs.Tilt.{r0, r1, response, tilt}
use Rattle.postfilter.specs.Postfilter.{PostfilterResult}

-- of a row
pub record Tilted (a : List ℤ) : Type 0 where
  pub from : pos 0 ≤ℤ (tilt a).value
  pub to : (tilt a).value ≤ℤ pos 26214
  -- where it divides: the numerator is not negative, and below the divisor
  pub numerator_from : pos 0 <ℤ r1 (response a) → pos 0 ≤ℤ mult (r1 (response a)) (pos 26214)
  pub numerator_below : pos 0 <ℤ r1 (response a) → mult (r1 (response a)) (pos 26214) <ℤ r0 (response a)
  -- the divisor lies in 1..=32767; with a first coefficient of 4096, as every row of lpc has it, in 512..=32767
  pub divisors : Every (Divides 1) (tilt a).quotients
  pub divisors_row : at a 0 ≡ pos 4096 → Every (Divides 512) (tilt a).quotients

-- after k subframes: as many tilts, each in 0..=26214, and every divisor, those of agc among them, from n on
pub record Framed (n k : ℕ) (s : PostfilterResult) : Type 0 where
  pub tilts : length s.tilts ≡ k
  pub range : Every (λ (t : ℤ). (pos 0 ≤ℤ t) × (t ≤ℤ pos 26214)) s.tilts
  pub divisors : Every (Divides n) s.quotients
