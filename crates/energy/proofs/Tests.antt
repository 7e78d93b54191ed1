-- Equality of integers as a test; what holds of both arms holds of a choice; a shift to the right, in the code.
use Rattle.std.proofs.Common.{◌≡◌, refl, ap, subst, ℕ, zero, suc, ◌<◌, ◌^◌, Bool, true, false, cond, ne_eqb, T, ℤ, pos, negsuc, ◌≤ℤ◌, ◌<ℤ◌, SFits, to_z, of_z, to_z-of_z}
use Rattle.std.specs.Int.Signed.{mag, shr_z}
use Rattle.std.specs.Int.{Width}
use mir.Val.{hbits}
use Rattle.lists.specs.Lists.{eq_z}
use Rattle.lists.proofs.Signed.{back}
use Rattle.lists.proofs.Table.{eq_z→eq}
use Rattle.basicop.specs.Ops.{asr}
use Rattle.basicop.proofs.Ints.{arith_ℤ}
use Rattle.basicop.proofs.Shift.{sfits_shr_same}

pub eq_z_yes : (a b : ℤ) → eq_z a b ≡ true → a ≡ b
eq_z_yes a b e = eq_z→eq a b (rw e tt)

pub eq_z_not : (a b : ℤ) → (a ≡ b → ⊥) → eq_z a b ≡ false
eq_z_not (pos a) (pos b) h = ne_eqb a b (λ e. h (ap pos e))
eq_z_not (pos a) (negsuc b) h = refl
eq_z_not (negsuc a) (pos b) h = refl
eq_z_not (negsuc a) (negsuc b) h = ne_eqb a b (λ e. h (ap negsuc e))

pub above_zero : (a : ℤ) → pos 0 <ℤ a → eq_z a (pos 0) ≡ false
above_zero a p = eq_z_not a (pos 0) not
  where
    not : a ≡ pos 0 → ⊥
    not e = omega (arith_ℤ, p, e)

pub not_zero : (a : ℤ) → pos 0 ≤ℤ a → eq_z a (pos 0) ≡ false → pos 0 <ℤ a
not_zero (pos zero) h e = absurd (subst T e tt)
not_zero (pos (suc a)) h e = omega arith_ℤ
not_zero (negsuc a) h e = absurd h.le

pub either : {A : Type 0} (P : A → Type 0) (t : Bool) {a b : A} → P a → P b → P (cond t a b)
either P true p q = p
either P false p q = q

-- z >> n, read back from a local
pub asr_read : (w : Width) (n : ℕ) {z : ℤ} → SFits w z → to_z w (of_z w (shr_z z (2 ^ n))) ≡ asr z n
unfolding asr
asr_read w n {z} f = to_z-of_z (sfits_shr_same w z (2 ^ n) f)

-- the same of a local that holds z, of which it is known what it is
pub shift_back : (w : Width) (n : ℕ) {z r : ℤ} → mag z < 2 ^ hbits w → z ≡ r → to_z w (of_z w (shr_z (to_z w (of_z w z)) (2 ^ n))) ≡ asr r n
shift_back w n {z} h e = rw (back w {z = z} h, asr_read w n {z = z} (record { sfits = h }), e) refl
