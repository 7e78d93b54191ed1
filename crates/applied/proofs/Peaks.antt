-- The theorems of the peak by distance at the samples of specs/Peaks.antt; lines are computed from the definition.
use Rattle.std.proofs.Common.{◌≡◌, refl, Bool, true, false, List, [], ◌∷◌, ℕ, zero, suc, ◌<◌, arith, ℤ, pos, neg_ℤ, ◌<ℤ◌, codes}
use Rattle.lists.specs.Lists.{at, minus}
use Rattle.lines.specs.Lines.{largest, peak_of, any_of, mark_of, spelled, decimal, frame_line}
use Rattle.lines.specs.Peaks.{larger, highest, height}
use Rattle.lines.proofs.Peaks.{peak_sides, mark_sides}
use Rattle.applied.specs.Peaks.{line_of, PeaksApplied}

lowest_is : line_of true (minus 32768 ∷ pos 32767 ∷ []) ≡ codes "1 0001 32768 L\n"
unfolding line_of frame_line peak_of largest mark_of any_of decimal spelled
lowest_is = refl

from_is : line_of false (minus 32760 ∷ pos 32759 ∷ []) ≡ codes "1 0000 32760 L\n"
unfolding line_of frame_line peak_of largest mark_of any_of decimal spelled
from_is = refl

below_is : line_of true (pos 7 ∷ minus 32759 ∷ []) ≡ codes "1 0001 32759 R\n"
unfolding line_of frame_line peak_of largest mark_of any_of decimal spelled
below_is = refl

least_is : line_of false (minus 1 ∷ []) ≡ codes "1 0000 1 -\n"
unfolding line_of frame_line peak_of largest mark_of any_of decimal spelled
least_is = refl

-- of two samples
sides_of : (x y : ℤ) → pos (peak_of (x ∷ y ∷ [])) ≡ larger (larger x y) (larger (neg_ℤ x) (neg_ℤ y))
unfolding highest
sides_of x y = peak_sides (x ∷ y ∷ [])

both : (x y : ℤ) → minus 32760 <ℤ x → minus 32760 <ℤ y → (i : ℕ) → i < 2 → minus 32760 <ℤ at (x ∷ y ∷ []) i
both x y h k zero l = h
both x y h k (suc zero) l = k
both x y h k (suc (suc i)) l = absurd (omega (arith, l))

kept_of : (x y : ℤ) (flags : List Bool) → minus 32760 <ℤ x → minus 32760 <ℤ y → mark_of (peak_of (x ∷ y ∷ [])) flags ≡ mark_of (height (larger x y)) flags
unfolding highest
kept_of x y flags h k = (mark_sides (x ∷ y ∷ []) flags).kept (both x y h k)

pub peaks_applied : PeaksApplied
peaks_applied =
    record {
      lowest = lowest_is;
      from = from_is;
      below = below_is;
      least = least_is;
      sides = sides_of;
      kept = kept_of;
      loud = λ x y z flags h. (mark_sides (x ∷ y ∷ z ∷ []) flags).loud 1 (omega arith) h;
    }
