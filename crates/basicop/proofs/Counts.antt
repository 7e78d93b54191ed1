-- Shifts by a signed count, as the code takes it apart: a count from 0 on, or the opposite of a negative one.
use Rattle.std.proofs.Common.{◌≡◌, refl, sym, ap, ◌∙◌, ℕ, zero, suc, ◌-◌, ◌^◌, ◌<◌, ◌≤◌, add-one, lt_irrefl, arith, lt-ltb, le-ltb, T, lit<, lit≤, leb→le, ltb→lt, pow_pos, ℤ, pos, negsuc, nat_abs, ◌+ℤ◌, ◌-ℤ◌, ◌*ℤ◌, ◌≤ℤ◌, ◌<ℤ◌, w16, w32, SFits}
use Rattle.std.specs.Int.Signed.{le_z, shr_z}
use Rattle.std.specs.Int.{Width}
use mir.Val.{hbits}
use Rattle.basicop.specs.Ops.{clamp, asr, mod_z, shl, shr, l_shl, l_shr, l_shr_r}
use borrow.Author.Differences.{sum_is_lem}
use Rattle.basicop.proofs.Ints.{arith_ℤ, sfits_by, sub_ℤ_is}
use Rattle.basicop.proofs.Shift as S
use Rattle.basicop.proofs.Shift.{asr_zero, asr_same, asr_asr, mod_z_lt}
use Rattle.basicop.proofs.Clamp.{clamp_id, clamp_clamp}

module _ (x : ℤ) where
  pub l_shl_left : (n : ℤ) → pos 0 ≤ℤ n → clamp w32 (x *ℤ pos (2 ^ nat_abs n)) ≡ l_shl x n
  unfolding l_shl
  l_shl_left (pos n) h = refl
  l_shl_left (negsuc n) h = absurd h.le

  pub l_shl_right : (n : ℤ) → n <ℤ pos 0 → asr x (nat_abs n) ≡ l_shl x n
  unfolding l_shl
  l_shl_right (pos n) h = omega (arith_ℤ, h)
  l_shl_right (negsuc n) h = refl

  pub l_shr_left : (n : ℤ) → n <ℤ pos 0 → clamp w32 (x *ℤ pos (2 ^ nat_abs n)) ≡ l_shr x n
  unfolding l_shl
  l_shr_left (pos n) h = omega (arith_ℤ, h)
  l_shr_left (negsuc n) h = refl

-- ---- 16 bits: the 32-bit shift, clamped once more
pub shl_is : (x n : ℤ) → SFits w16 x → clamp w16 (l_shl x n) ≡ shl x n
unfolding l_shl shl
shl_is x (pos n) f = clamp_clamp w16 w32 _ (lit≤ tt)
shl_is x (negsuc n) f = clamp_id w16 _ (asr_same w16 x (suc n) f)

pub shr_is : (x n : ℤ) → SFits w16 x → clamp w16 (l_shr x n) ≡ shr x n
unfolding l_shl shl
shr_is x (pos n) f = clamp_id w16 _ (asr_same w16 x n f)
shr_is x (negsuc n) f = clamp_clamp w16 w32 _ (lit≤ tt)

-- ---- L_shr_r, by the three ranges of its count
pub l_shr_r_none : (x n : ℤ) → n ≤ℤ pos 0 → l_shr x n ≡ l_shr_r x n
unfolding l_shr_r
l_shr_r_none x (pos zero) h = asr_zero x
l_shr_r_none x (pos (suc n)) h = absurd (over h.le)
  where
    over : T (le_z (pos (suc n)) (pos 0)) → ⊥
    over t = omega (arith, leb→le (suc n) 0 t)
l_shr_r_none x (negsuc n) h = refl

pub l_shr_r_far : (x n : ℤ) → pos 32 ≤ℤ n → pos 0 ≡ l_shr_r x n
unfolding l_shr_r
l_shr_r_far x (pos zero) h = absurd (over h.le)
  where
    over : T (le_z (pos 32) (pos 0)) → ⊥
    over t = omega (arith, leb→le 32 0 t)
l_shr_r_far x (pos (suc n)) h = rw (le-ltb n 31 (omega arith_ℤ))
l_shr_r_far x (negsuc n) h = absurd h.le

-- by k, from 1 to 31: the bit that is added is the one by which x >> (k - 1) differs from twice x >> k
halves_up : (y : ℤ) → y -ℤ asr y 1 ≡ asr y 1 +ℤ pos (mod_z y 2)
unfolding asr
halves_up y = omega (arith_ℤ, sub_ℤ_is y (shr_z y 2), sum_is_lem (shr_z y 2) (pos (mod_z y 2)), S.shr_is y 2 (lit< tt))

halves_fit : (w : Width) (y : ℤ) → SFits w y → SFits w (y -ℤ asr y 1)
unfolding asr
halves_fit w y f = sfits_by (omega (arith_ℤ, sub_ℤ_is y (shr_z y 2), S.shr_is y 2 (lit< tt), mod_z_lt y 2 (lit< tt), pow_pos (hbits w)))

one_more : (x : ℤ) (k : ℕ) → asr x (suc k) ≡ asr (asr x k) 1
one_more x k = ap (asr x) (sym (add-one k)) ∙ sym (asr_asr x k 1)

pub record Rounded (x n : ℤ) : Type 0 where
  pub from : 1 ≤ nat_abs n
  pub fits : SFits w32 (asr x (nat_abs n - 1) -ℤ asr x (nat_abs n))
  pub is : asr x (nat_abs n - 1) -ℤ asr x (nat_abs n) ≡ l_shr_r x n

pub l_shr_r_is : (x n : ℤ) → SFits w32 x → pos 0 <ℤ n → n <ℤ pos 32 → Rounded x n
unfolding l_shr_r
l_shr_r_is x (pos zero) f h l = absurd (lt_irrefl 0 (ltb→lt 0 0 h.lt))
l_shr_r_is x (pos (suc k)) f h l =
    let e : suc k - 1 ≡ k = omega arith in
    let s : k < 31 = omega (arith, ltb→lt (suc k) 32 l.lt) in
    record {
      from = omega arith;
      fits = rw (e, one_more x k) (halves_fit w32 (asr x k) (asr_same w32 x k f));
      is = rw (e, one_more x k, lt-ltb k 31 s) (halves_up (asr x k));
    }
l_shr_r_is x (negsuc n) f h l = absurd h.lt
