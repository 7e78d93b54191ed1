-- Closed values at the operators' corners, computed from the definitions.
use Rattle.std.proofs.Common.{◌≡◌, refl, pos, negsuc}
use Rattle.lists.specs.Lists.{iter}
use Rattle.basicop.specs.Ops.{clamp, asr, wrap, mult, l_add, l_mult, l_shl, l_shr_r, extract_l, round, doublings, norm_l, div_s}

-- (-32768)² is the one product that clamps
corner_L_mult : l_mult (negsuc 32767) (negsuc 32767) ≡ pos 2147483647
unfolding l_mult clamp
corner_L_mult = refl

corner_mult : mult (negsuc 32767) (negsuc 32767) ≡ pos 32767
unfolding mult clamp asr
corner_mult = refl

corner_L_add : l_add (negsuc 2147483647) (negsuc 0) ≡ negsuc 2147483647
unfolding l_add clamp
corner_L_add = refl

corner_round : round (pos 2147483647) ≡ pos 32767
unfolding l_add clamp asr
corner_round = refl

-- -3 >> 1 is -2, and a shift to the left by a negative count is that shift
corner_asr : l_shl (negsuc 2) (negsuc 0) ≡ negsuc 1
unfolding l_shl asr
corner_asr = refl

corner_L_shl : l_shl (pos 1) (pos 31) ≡ pos 2147483647
unfolding l_shl clamp
corner_L_shl = refl

corner_L_shr_r : l_shr_r (negsuc 4095) (pos 13) ≡ pos 0
unfolding l_shr_r asr
corner_L_shr_r = refl

corner_extract_l : extract_l (pos 98304) ≡ negsuc 32767
unfolding wrap
corner_extract_l = refl

corner_norm_l : norm_l (pos 1) ≡ pos 30
unfolding norm_l doublings
corner_norm_l = refl

corner_norm_l_neg : norm_l (negsuc 1073741824) ≡ pos 0
unfolding norm_l doublings
corner_norm_l_neg = refl

corner_div_s : (div_s (pos 1) (pos 2)).value ≡ pos 16384
unfolding div_s iter
corner_div_s = refl

corner_div_s_same : (div_s (pos 7) (pos 7)).value ≡ pos 32767
unfolding div_s
corner_div_s_same = refl
