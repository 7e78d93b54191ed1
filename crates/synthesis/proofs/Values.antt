-- The starred values of docs/BENCH.md, "Values to hold": zero history, row 4096, -4096, zeros.
use Rattle.std.proofs.Common.{◌≡◌, refl, sym, ◌∙◌, true, false, List, ◌∷◌, ℤ, pos, replicate}
use Rattle.lists.specs.Lists.{minus}
use Rattle.basicop.specs.Ops.{clamp, asr, l_mult, l_sub, l_shl, l_add}
use Rattle.synthesis.specs.Recursion.{outside, recursion, step_numbers, some_outside, some_list_outside, first_list_outside}
use Rattle.synthesis.specs.Synthesis.{acc, accs, overflowed, overflowed_at}
use Rattle.synthesis.specs.Whole.{retried_at}
use Rattle.synthesis.proofs.Agree.{agree}

abbrev row : List ℤ
row = pos 4096 ∷ minus 4096 ∷ replicate 9 (pos 0)

-- excitation 32767, then zeros: no overflow
pub still : overflowed_at 10 row (pos 32767 ∷ replicate 39 (pos 0)) (replicate 10 (pos 0)) ≡ 40
unfolding acc accs recursion step_numbers some_outside first_list_outside outside l_mult l_sub l_shl l_add clamp asr
still = refl

pub still_flag : overflowed 10 row (pos 32767 ∷ replicate 39 (pos 0)) (replicate 10 (pos 0)) ≡ false
unfolding acc accs recursion step_numbers some_outside some_list_outside outside l_mult l_sub l_shl l_add clamp asr
still_flag = refl

-- 32767, 1, then zeros: overflow, in the second sample
pub over : overflowed_at 10 row (pos 32767 ∷ pos 1 ∷ replicate 38 (pos 0)) (replicate 10 (pos 0)) ≡ 1
unfolding acc accs recursion step_numbers some_outside first_list_outside outside l_mult l_sub l_shl l_add clamp asr
over = refl

pub over_flag : overflowed 10 row (pos 32767 ∷ pos 1 ∷ replicate 38 (pos 0)) (replicate 10 (pos 0)) ≡ true
unfolding acc accs recursion step_numbers some_outside some_list_outside outside l_mult l_sub l_shl l_add clamp asr
over_flag = refl

-- the same of the whole numbers
pub whole_still : retried_at 10 row (pos 32767 ∷ replicate 39 (pos 0)) (replicate 10 (pos 0)) ≡ 40
whole_still = sym (agree 10 row _ (replicate 10 (pos 0)) refl).place ∙ still

pub whole_over : retried_at 10 row (pos 32767 ∷ pos 1 ∷ replicate 38 (pos 0)) (replicate 10 (pos 0)) ≡ 1
whole_over = sym (agree 10 row _ (replicate 10 (pos 0)) refl).place ∙ over
