-- The 16-bit clamps of the blends never act: a blend is the sum of its parts.
use Rattle.std.proofs.Common.{◌≡◌, lit<, ℤ, ◌+ℤ◌, ◌-ℤ◌, w16, SFits}
use Rattle.std.specs.Int.Signed.{shr_z}
use Rattle.basicop.specs.Ops.{asr, add, sub}
use borrow.Author.Differences.{sum_is_lem}
use Rattle.basicop.proofs.Ints.{arith_ℤ, sfits_by, sub_ℤ_is}
use Rattle.basicop.proofs.Shift.{shr_is, mod_z_lt}
use Rattle.basicop.proofs.Clamp.{clamp_id}
use Rattle.lpc.specs.Rows.{blend0, blend1, blend2}

module _ (x y : ℤ) (f : SFits w16 x) (g : SFits w16 y) where
  half : SFits w16 (asr x 1 +ℤ asr y 1)
  unfolding asr
  half = sfits_by (omega (arith_ℤ, sum_is_lem (shr_z x 2) (shr_z y 2), shr_is x 2 (lit< tt), shr_is y 2 (lit< tt), mod_z_lt x 2 (lit< tt), mod_z_lt y 2 (lit< tt)))

  rest : SFits w16 (y -ℤ asr y 2)
  unfolding asr
  rest = sfits_by (omega (arith_ℤ, sub_ℤ_is y (shr_z y 4), shr_is y 4 (lit< tt), mod_z_lt y 4 (lit< tt)))

  whole : SFits w16 (asr x 2 +ℤ (y -ℤ asr y 2))
  unfolding asr
  whole =
      sfits_by (omega (arith_ℤ, sum_is_lem (shr_z x 4) (y -ℤ shr_z y 4), sub_ℤ_is y (shr_z y 4), shr_is x 4 (lit< tt), shr_is y 4 (lit< tt), mod_z_lt x 4 (lit< tt), mod_z_lt y 4 (lit< tt)))

  pub blend1_is : blend1 x y ≡ asr x 1 +ℤ asr y 1
  unfolding add
  blend1_is = clamp_id w16 _ half

  pub blend2_is : blend2 x y ≡ asr x 2 +ℤ (y -ℤ asr y 2)
  unfolding add sub
  blend2_is = rw (clamp_id w16 (y -ℤ asr y 2) rest) (clamp_id w16 _ whole)

pub blend0_is : (x y : ℤ) → SFits w16 x → SFits w16 y → blend0 x y ≡ asr y 2 +ℤ (x -ℤ asr x 2)
blend0_is x y f g = blend2_is y x g f
