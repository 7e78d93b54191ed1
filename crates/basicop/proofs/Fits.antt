-- What each operator gives fits its type.
use Rattle.std.proofs.Common.{suc, ℤ, pos, negsuc, w16, w32, SFits}
use Rattle.basicop.specs.Ops.{add, l_add, l_sub, l_mult, l_shl, extract_h, round}
use Rattle.basicop.proofs.Clamp.{clamp_fits}
use Rattle.basicop.proofs.Shift.{asr_fits, asr_same}

pub add_fits : (a b : ℤ) → SFits w16 (add a b)
unfolding add
add_fits a b = clamp_fits w16 _

pub l_add_fits : (x y : ℤ) → SFits w32 (l_add x y)
unfolding l_add
l_add_fits x y = clamp_fits w32 _

pub l_sub_fits : (x y : ℤ) → SFits w32 (l_sub x y)
unfolding l_sub
l_sub_fits x y = clamp_fits w32 _

pub l_mult_fits : (a b : ℤ) → SFits w32 (l_mult a b)
unfolding l_mult
l_mult_fits a b = clamp_fits w32 _

pub l_shl_fits : (x n : ℤ) → SFits w32 x → SFits w32 (l_shl x n)
unfolding l_shl
l_shl_fits x (pos n) f = clamp_fits w32 _
l_shl_fits x (negsuc n) f = asr_same w32 x (suc n) f

pub extract_h_fits : (x : ℤ) → SFits w32 x → SFits w16 (extract_h x)
extract_h_fits x f = asr_fits w32 w16 x 16 f tt

pub round_fits : (x : ℤ) → SFits w16 (round x)
round_fits x = extract_h_fits _ (l_add_fits x (pos 32768))
