-- What turns a frame call back (docs/BENCH.md, "Refusals"): groups of checks of a sheet's numbers, which the kinds have in their own order (Kind.antt).
use Rattle.std.specs.Prelude.{not, ◌||◌, List, [], ◌∷◌, ℕ, ◌==◌, ℤ, pos, replicate}
use Rattle.std.specs.Int.Signed.{lt_z}
use Rattle.outcome.specs.declared.Refusal.TheVariants.{SheetLength, Lsf, PitchIndex, Gain, LsfGap, Stage}
use Rattle.outcome.specs.Checks.{Check, check, place_check, room_check, first_outside, first_close}
use Rattle.kinds.specs.Sheet.{lsfs_of, pitch_indices_of, gains_of, stage_of}

-- 1: another count of numbers than the sheet's; 5: no room for 160 samples
abbrev pub length_checks : ℕ → ℕ → ℕ → List Check
length_checks count numbers room = check (not (numbers == count)) SheetLength ∷ room_check room

-- LSF_GAP of Reorder_lsf
abbrev pub lsf_gap : ℤ
lsf_gap = pos 205

-- 2: an LSF outside 0..=16384; 6: the first LSF below 205, or a later one less than 205 above the one before
abbrev pub lsf_checks : List ℤ → List Check
lsf_checks sheet =
    place_check Lsf (first_outside (lsfs_of sheet) (replicate 10 (pos 16384))) 10
    ∷ place_check LsfGap (first_close lsf_gap (pos 0) (lsfs_of sheet)) 10
    ∷ []

-- 3: a pitch index outside 0..=255 in subframes 0 and 2, outside 0..=31 in 1 and 3
abbrev pub pitch_limits : List ℤ
pitch_limits = pos 255 ∷ pos 31 ∷ pos 255 ∷ pos 31 ∷ []

abbrev pub pitch_checks : List ℤ → List Check
pitch_checks sheet = place_check PitchIndex (first_outside (pitch_indices_of sheet) pitch_limits) 4 ∷ []

-- 4: a negative gain. Gains have no upper limit: each is its own
abbrev pub gain_checks : List ℤ → List Check
gain_checks sheet = place_check Gain (first_outside (gains_of sheet) (gains_of sheet)) 8 ∷ []

-- 9: an attenuation stage outside 0..=6
abbrev pub stage_checks : List ℤ → List Check
stage_checks sheet = check (lt_z (stage_of sheet) (pos 0) || lt_z (pos 6) (stage_of sheet)) Stage ∷ []
