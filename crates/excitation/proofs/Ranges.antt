-- How many numbers sharpening and feedback have, and what the sharpening and a quartered number lie in.
use Rattle.std.proofs.Common.{◌≡◌, refl, Bool, true, false, cond, List, [], ℤ, pos, negsuc, length, ◌≤ℤ◌, w16, SFits}
use Rattle.std.specs.Int.Signed.{lt_z}
use Rattle.lists.proofs.Entries.{length_pairwise}
use Rattle.lists.proofs.Grow.{length_grow}
use Rattle.basicop.specs.Ops.{asr, sub, shr}
use Rattle.basicop.proofs.Ints.{arith_ℤ}
use Rattle.basicop.proofs.Clamp.{clamp_above}
use Rattle.basicop.proofs.Shift.{asr_mono}
use Rattle.basicop.proofs.Range.{sfits_range}
use Rattle.basicop.proofs.Tests.{less_no}
use Rattle.excitation.specs.Excitation.{sharpened, sharpening, feedback_at, feedback}

-- ---- sharpening
pub sharpened_length : (code : List ℤ) (t : ℤ) (sharp : ℤ) → length (sharpened code t sharp) ≡ 40
unfolding sharpened
sharpened_length code t sharp = length_grow _ [] 40

-- the sharpening carried on lies in 0..=13017, of every gain that is not negative
pub sharpening_range : (gain : ℤ) → pos 0 ≤ℤ gain → (pos 0 ≤ℤ sharpening gain) × (sharpening gain ≤ℤ pos 13017)
unfolding sharpening sub
sharpening_range gain h = rw (clamp_above w16 gain (pos 13017)) (go (lt_z (pos 13017) gain) refl)
  where
    go : (b : Bool) → lt_z (pos 13017) gain ≡ b → (pos 0 ≤ℤ cond b (pos 13017) gain) × (cond b (pos 13017) gain ≤ℤ pos 13017)
    go true e = (omega arith_ℤ, omega arith_ℤ)
    go false e = (h, less_no e)

-- ---- feedback
pub feedback_length : (v : List ℤ) (pitch : ℤ) (code : List ℤ) (gain : ℤ) → length v ≡ length code → length (feedback v pitch code gain) ≡ length v
unfolding feedback
feedback_length v pitch code gain e = length_pairwise (feedback_at pitch gain) v code e

-- ---- what is quartered lies in -8192..=8191
pub quarter_range : (z : ℤ) → SFits w16 z → (negsuc 8191 ≤ℤ shr z (pos 2)) × (shr z (pos 2) ≤ℤ pos 8191)
unfolding asr
quarter_range z f =
    let r = sfits_range w16 z f in
    (asr_mono (negsuc 32767) z 2 r.0, asr_mono z (pos 32767) 2 r.1)
