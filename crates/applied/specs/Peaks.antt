-- The theorems of the peak by distance (lines/specs/Peaks.antt) applied to samples, and frames' lines, computed.
-- The theorem is `peaks_applied` in proofs/Peaks.antt.
use Rattle.std.specs.Prelude.{◌≡◌, Bool, true, false, List, [], ◌∷◌, ◌++◌, ℕ, ◌-◌, ℤ, pos, neg_ℤ, length, replicate, ◌≤ℤ◌, ◌<ℤ◌, codes}
use Rattle.lists.specs.Lists.{minus}
use Rattle.lines.specs.Lines.{peak_of, mark_of, frame_line}
use Rattle.lines.specs.Peaks.{larger, height}

-- the line of a frame of 160 samples, these and zeros behind them, with a retry in the last subframe or none
unfoldable pub line_of : Bool → List ℤ → List ℕ
line_of retried samples = frame_line 1 (false ∷ false ∷ false ∷ retried ∷ []) (peak_of (samples ++ replicate (160 - length samples) (pos 0)))

pub record PeaksApplied : Type 0 where
  -- computed: a negative sample counts by its distance, -32768 as 32768; at 32760 the mark is L, by either sign
  pub lowest : line_of true (minus 32768 ∷ pos 32767 ∷ []) ≡ codes "1 0001 32768 L\n"
  pub from : line_of false (minus 32760 ∷ pos 32759 ∷ []) ≡ codes "1 0000 32760 L\n"
  pub below : line_of true (pos 7 ∷ minus 32759 ∷ []) ≡ codes "1 0001 32759 R\n"
  pub least : line_of false (minus 1 ∷ []) ≡ codes "1 0000 1 -\n"
  -- PeakSides
  pub sides : (x y : ℤ) → pos (peak_of (x ∷ y ∷ [])) ≡ larger (larger x y) (larger (neg_ℤ x) (neg_ℤ y))
  -- MarkSides: the mark of two samples, and a sample that makes it L
  pub kept : (x y : ℤ) (flags : List Bool) → minus 32760 <ℤ x → minus 32760 <ℤ y → mark_of (peak_of (x ∷ y ∷ [])) flags ≡ mark_of (height (larger x y)) flags
  pub loud : (x y z : ℤ) (flags : List Bool) → y ≤ℤ minus 32760 → mark_of (peak_of (x ∷ y ∷ z ∷ [])) flags ≡ 0x4C
