-- A sheet's pitch indices and a state's mark, as the code has them.
use Rattle.std.proofs.Common.{◌≡◌, refl, arith, ne_eqb, T, eqb, leb→le, ℤ, pos, negsuc, nat_abs, ◌≤ℤ◌, w8, w16, Fits, SFits, to_z, of_z, to_z-of_z}
use lib.Signed.{non_neg, le_z_yes}
use Rattle.lists.specs.Lists.{eq_z}
use Rattle.basicop.proofs.Ints.{≤ℤ_trans}
use Rattle.basicop.proofs.Range.{sfits_from}

-- a pitch index as a byte, read from a local
pub byte_fits : (z : ℤ) → pos 0 ≤ℤ z → z ≤ℤ pos 255 → (T (non_neg (to_z w16 (of_z w16 z))) × Fits w8 (nat_abs (to_z w16 (of_z w16 z)))) × (pos (nat_abs (to_z w16 (of_z w16 z))) ≡ z)
byte_fits z h k = rw (to_z-of_z (sfits_from w16 z (≤ℤ_trans (le_z_yes tt) h) (≤ℤ_trans k (le_z_yes tt)))) (go z h k)
  where
    go : (z : ℤ) → pos 0 ≤ℤ z → z ≤ℤ pos 255 → (T (non_neg z) × Fits w8 (nat_abs z)) × (pos (nat_abs z) ≡ z)
    go (pos n) h k = ((tt, record { fits = omega (arith, leb→le n 255 k.le) }), refl)
    go (negsuc n) h k = absurd h.le

-- a mark that the code tests to be 1
pub mark_is : (z : ℤ) → SFits w16 z → eqb (of_z w16 z) 1 ≡ eq_z z (pos 1)
mark_is (pos n) f = refl
mark_is (negsuc n) f = ne_eqb (of_z w16 (negsuc n)) 1 (λ e. omega (arith, f.sfits, e))
