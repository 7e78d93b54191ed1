-- The peak by distance beside the highest sample, by which frames were once marked: docs/BENCH.md, "Bench program".
-- The theorems are `peak_sides` and `mark_sides` in proofs/Peaks.antt; `laws` in src/marks.rt ensures them.
use Rattle.std.specs.Prelude.{◌≡◌, Bool, if◌then◌else◌, List, [], ◌∷◌, map, fold, ℕ, ◌<◌, ℤ, pos, negsuc, neg_ℤ, int_lt, length, ◌≤ℤ◌, ◌<ℤ◌}
use Rattle.lists.specs.Lists.{at, minus}
use Rattle.lines.specs.Lines.{peak_of, mark_of}

abbrev pub larger : ℤ → ℤ → ℤ
larger a b = if int_lt a b then b else a

-- the highest of samples, of which there is at least one
unfoldable pub highest : List ℤ → ℤ
highest [] = pos 0
highest (x ∷ xs) = fold larger x xs

-- how far a number lies above zero: of one below zero 0
abbrev pub height : ℤ → ℕ
height (pos n) = n
height (negsuc n) = 0

-- the peak is the larger of the highest sample and the highest of the samples negated
abbrev pub PeakSides : Type 0
PeakSides = (samples : List ℤ) → pos (peak_of samples) ≡ larger (highest samples) (highest (map neg_ℤ samples))

-- the mark is the highest sample's, unless a sample lies at -32760 or below it: then it is L
pub record KeepsMark (samples : List ℤ) (flags : List Bool) : Type 0 where
  pub kept : ((i : ℕ) → i < length samples → minus 32760 <ℤ at samples i) → mark_of (peak_of samples) flags ≡ mark_of (height (highest samples)) flags
  pub loud : (i : ℕ) → i < length samples → at samples i ≤ℤ minus 32760 → mark_of (peak_of samples) flags ≡ 0x4C

abbrev pub MarkSides : Type 0
MarkSides = (samples : List ℤ) (flags : List Bool) → KeepsMark samples flags
