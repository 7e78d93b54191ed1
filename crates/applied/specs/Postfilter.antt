-- `Tilted` and `Framed` (postfilter/specs/Tilted.antt) applied: of a row whose tilt divides, and of a frame with four of it; each of their fields is written
-- out. The theorems are in proofs/Postfilter.antt.
use Rattle.std.specs.Prelude.{◌≡◌, List, ℕ, ℤ, pos, length, replicate, ◌≤ℤ◌, ◌<ℤ◌}
use Rattle.lists.specs.Lists.{Every}
use Rattle.basicop.specs.Ops.{Quotient, mult}
use Rattle.lpc.specs.declared.Rows.{Rows}
use Rattle.postfilter.specs.Tilt.{r0, r1, response, tilt}
use Rattle.postfilter.specs.Postfilter.{PostfilterResult, postfilter_result}
use Rattle.applied.specs.Examples.{silent}
use Rattle.applied.specs.Synthesis.{row}

-- every divisor lies in n..=32767
abbrev pub From : ℕ → List Quotient → Type 0
From n qs = Every (λ (q : Quotient). (pos n ≤ℤ q.divisor) × (q.divisor ≤ℤ pos 32767)) qs

-- ---- of `tilted`
pub record TiltApplied : Type 0 where
  pub from : pos 0 ≤ℤ (tilt row).value
  pub to : (tilt row).value ≤ℤ pos 26214
  pub numerator_from : pos 0 ≤ℤ mult (r1 (response row)) (pos 26214)
  pub numerator_below : mult (r1 (response row)) (pos 26214) <ℤ r0 (response row)
  -- there is one
  pub one : length (tilt row).quotients ≡ 1
  pub divisors : From 1 (tilt row).quotients
  pub divisors_row : From 512 (tilt row).quotients

-- ---- of `framed_any` and `framed_rows`
abbrev pub rows : Rows
rows = record { a = row; b = row; c = row; d = row }

-- from a memory of zeros
abbrev pub frame : PostfilterResult
frame = postfilter_result silent.post rows (replicate 160 (pos 100))

pub record FrameApplied : Type 0 where
  pub tilts : length frame.tilts ≡ 4
  pub range : Every (λ (t : ℤ). (pos 0 ≤ℤ t) × (t ≤ℤ pos 26214)) frame.tilts
  pub divisors : From 1 frame.quotients
  pub divisors_rows : From 512 frame.quotients
