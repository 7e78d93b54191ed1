-- Lsf_lsp of a frequency that is not negative, in ℕ, and at its upper end.
use Rattle.std.proofs.Common.{◌≡◌, refl, ℕ, ◌+◌, ◌/◌, ◌%◌, ℤ, pos, negsuc, w16, SFits}
use Rattle.lists.specs.Lists.{at}
use Rattle.basicop.specs.Ops.{asr, clamp, wrap, add, sub, l_mult}
use Rattle.basicop.proofs.Fits.{add_fits}
use Rattle.spectral.specs.Lsp.{cosine, between, lsp_of}

pub lsp_pos : (n : ℕ) → lsp_of (pos n) ≡ between (at cosine (n / 256)) (at cosine (n / 256 + 1)) (pos (n % 256))
unfolding lsp_of asr
lsp_pos n = refl

-- the product with an offset of 0 leaves the last entry
pub lsp_last : lsp_of (pos 16384) ≡ negsuc 32767
unfolding lsp_of between cosine asr clamp wrap add sub l_mult
lsp_last = refl

pub lsp_fits : (lsf : ℤ) → SFits w16 (lsp_of lsf)
unfolding lsp_of between
lsp_fits lsf = add_fits _ _
