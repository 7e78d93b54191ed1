-- `tilted`, `framed_any` and `framed_rows` at one row: that its tilt divides is computed, and the rest comes from the theorems.
use Rattle.std.proofs.Common.{◌≡◌, refl, List, ℕ, ℤ, pos, length, replicate, ◌<ℤ◌}
use lib.Signed.{lt_z_yes}
use Rattle.lists.specs.Lists.{at, iter, Every}
use Rattle.lists.proofs.Entries.{every_map}
use Rattle.basicop.specs.Ops.{Quotient, clamp, asr, mult, l_mult, l_sub, l_shl, l_add, div_s}
use Rattle.basicop.specs.Divided.{Divides}
use Rattle.energy.specs.Energy.{squares}
use Rattle.synthesis.specs.Recursion.{recursion}
use Rattle.synthesis.specs.Synthesis.{acc}
use Rattle.postfilter.specs.Weight.{numerator, denominator, weighted}
use Rattle.postfilter.specs.Tilt.{r1, response, impulse, correlation, tilt_of, tilt}
use Rattle.postfilter.proofs.Tilts.{tilted}
use Rattle.postfilter.proofs.Results.{each_row, framed_any, framed_rows}
use Rattle.applied.specs.Examples.{silent}
use Rattle.applied.specs.Synthesis.{row}
use Rattle.applied.specs.Postfilter.{From, TiltApplied, rows, frame, FrameApplied}

-- ---- the tilt divides
positive : pos 0 <ℤ r1 (response row)
unfolding impulse correlation weighted numerator denominator acc recursion iter l_mult l_sub l_shl l_add clamp asr
positive = lt_z_yes tt

one_quotient : length (tilt row).quotients ≡ 1
unfolding tilt tilt_of squares div_s mult impulse correlation weighted numerator denominator acc recursion iter l_mult l_sub l_shl l_add clamp asr
one_quotient = refl

-- ---- what is said of the divisors
from : (n : ℕ) (qs : List Quotient) → Every (Divides n) qs → From n qs
from n qs d = every_map (λ (q : Quotient) (e : Divides n q). (e.from, e.to)) qs d

pub tilt_applied : TiltApplied
tilt_applied =
    let t = tilted row in
    record {
      from = t.from;
      to = t.to;
      numerator_from = t.numerator_from positive;
      numerator_below = t.numerator_below positive;
      one = one_quotient;
      divisors = from 1 (tilt row).quotients t.divisors;
      divisors_row = from 512 (tilt row).quotients (t.divisors_row refl);
    }

pub frame_applied : FrameApplied
frame_applied =
    let ys = replicate 160 (pos 100) in
    let t = framed_any silent.post rows ys in
    let r = framed_rows silent.post rows ys (each_row (λ (a : List ℤ). at a 0 ≡ pos 4096) rows refl refl refl refl) in
    record { tilts = t.tilts; range = t.range; divisors = from 1 frame.quotients t.divisors; divisors_rows = from 512 frame.quotients r.divisors }
