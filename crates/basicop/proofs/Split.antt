-- L_Extract: no step of it clamps or wraps, and the halves make up x but for its lowest bit.
use Rattle.std.proofs.Common.{◌≡◌, sym, ap, ◌∙◌, ◌<◌, arith, lit<, ℤ, pos, ◌-ℤ◌, ◌*ℤ◌, w16, w32, SFits}
use Rattle.std.specs.Int.Signed.{shr_z}
use Rattle.basicop.specs.Ops.{asr, mod_z, l_sub, l_mult, l_extract}
use borrow.Author.Differences.{product_is}
use Rattle.basicop.proofs.Ints.{arith_ℤ, sfits_by, sub_ℤ_is}
use Rattle.basicop.proofs.Shift.{asr_asr, asr_fits, shr_is, mod_z_lt}
use Rattle.basicop.proofs.Clamp.{clamp_id}
use Rattle.basicop.proofs.Wrap.{wrap_id}

-- y less its high part, y >> 15, at its place: the low 15 bits
low_is : (y : ℤ) → y -ℤ asr y 15 *ℤ pos 32768 ≡ pos (mod_z y 32768)
unfolding asr
low_is y = omega (arith_ℤ, sub_ℤ_is y (shr_z y 32768 *ℤ pos 32768), product_is (shr_z y 32768) (pos 32768), shr_is y 32768 (lit< tt))

-- the product that is taken off is the high half at its place
module _ (x : ℤ) (f : SFits w32 x) where
  high_fits : SFits w32 (pos 2 *ℤ (asr x 16 *ℤ pos 16384))
  high_fits =
      let h : SFits w16 (asr x 16) = asr_fits w32 w16 x 16 f tt in
      sfits_by (omega (arith_ℤ, product_is (pos 2) (asr x 16 *ℤ pos 16384), product_is (asr x 16) (pos 16384)))

  high_is : l_mult (asr x 16) (pos 16384) ≡ asr (asr x 1) 15 *ℤ pos 32768
  unfolding l_mult
  high_is =
      clamp_id w32 _ high_fits ∙ rw (asr_asr x 1 15) (omega (arith_ℤ, product_is (pos 2) (asr x 16 *ℤ pos 16384), product_is (asr x 16) (pos 16384), product_is (asr x 16) (pos 32768)))

  pub low_small : mod_z (asr x 1) 32768 < 32768
  low_small = mod_z_lt (asr x 1) 32768 (lit< tt)

  pub extract_lo : asr x 1 -ℤ asr x 16 *ℤ pos 32768 ≡ pos (mod_z (asr x 1) 32768)
  extract_lo = ap (λ (z : ℤ). asr x 1 -ℤ z *ℤ pos 32768) (sym (asr_asr x 1 15)) ∙ low_is (asr x 1)

  pub extract_is : l_extract x ≡ record { hi = asr x 16; lo = pos (mod_z (asr x 1) 32768) }
  unfolding l_extract l_sub
  extract_is =
      rw (high_is, low_is (asr x 1), clamp_id w32 (pos (mod_z (asr x 1) 32768)) (record { sfits = omega (arith, low_small) }), wrap_id w16 (pos (mod_z (asr x 1) 32768)) (record { sfits = low_small }))
