-- Inv_sqrt of a positive number: the index stays in the table, no step clamps, and the result is in range.
use Rattle.std.proofs.Common.{◌≡◌, refl, sym, ◌∙◌, Bool, true, false, ℕ, ◌+◌, ◌-◌, ◌/◌, ◌^◌, ◌<◌, ◌≤◌, div-lt_iff_lt-mul, le-div_iff_mul-le, arith, pow_mono, pow_pos, ℤ, pos, negsuc, ◌+ℤ◌, ◌-ℤ◌, ◌≤ℤ◌, ◌<ℤ◌, w32, SFits}
use Rattle.std.specs.Int.Signed.{le_z, le_z_yes}
use Rattle.basicop.specs.Ops.{asr, sub, l_shr}
use Rattle.basicop.proofs.Ints.{arith_ℤ, le_in, ≤ℤ_trans}
use Rattle.basicop.proofs.Naturals.{minus, asr_pos}
use Rattle.basicop.proofs.Norm.{Normalised, normalised}
use Rattle.basicop.proofs.Tables.{Within, Between}
use Rattle.basicop.proofs.Tests.{at_most_no}
use Rattle.basicop.specs.Interpolation.{interpolated}
use Rattle.energy.specs.Root.{inverse_table, root_scaled, root_position, root_shift, inverse_root}
use Rattle.energy.proofs.root.Table.{entry_of}
use Rattle.energy.proofs.root.Steps.{scaled_in, positioned, low_of, next_of, between_in, exponent_is, shift_is, shift_most, root_none, root_found}

-- The operators of Inv_sqrt that can clamp, each equal to the plain operation: L_shl (in `normalised`), sub and add of the exponent, sub of the index (in `position`,
-- with the index in 0..=47), and sub, L_mult and L_sub between two entries of the table (in `between`)
pub record Plain (x : ℤ) : Type 0 where
  pub n : ℕ
  pub normalised : Normalised x n
  pub exponent : sub (pos 30) (pos n) ≡ pos 30 -ℤ pos n
  pub shift : root_shift (pos n) ≡ asr (pos 30 -ℤ pos n) 1 +ℤ pos 1
  pub position : Within 48 (pos 16) (l_shr (root_scaled x (pos n)) (pos 9))
  pub between : Between (low_of (root_scaled x (pos n))) (next_of (root_scaled x (pos n))) (root_position (root_scaled x (pos n))).fraction
  pub is : inverse_root x ≡ asr (interpolated inverse_table (root_position (root_scaled x (pos n)))) ((30 - n) / 2 + 1)
  pub from : pos 1073741824 ≤ℤ interpolated inverse_table (root_position (root_scaled x (pos n)))
  pub to : interpolated inverse_table (root_position (root_scaled x (pos n))) ≤ℤ pos 2147418112

pub root_plain : (x : ℤ) → pos 0 <ℤ x → SFits w32 x → Plain x
root_plain x p f =
    let h = normalised x p f in
    let n = h.0 in
    let l = h.1.most in
    let y = root_scaled x (pos n) in
    let s = scaled_in x n h.1 in
    let w = positioned y s in
    let b = between_in y s in
    let e = entry_of (root_position y).index w.from w.below in
    record {
      n = n;
      normalised = h.1;
      exponent = exponent_is n l ∙ sym (minus 30 n l);
      shift = shift_is n l ∙ sym (rw (minus 30 n l, asr_pos (30 - n) 1) refl);
      position = w;
      between = b;
      is = sym (rw (h.1.count, shift_is n l) at (root_found x p));
      from = b.from 16384 e.0.from e.1.from;
      to = b.to 32767 e.0.to e.1.to;
    }

-- ---- the result: 16384 to 1073709056 of a positive number, and never negative
shifted_in : (v : ℤ) (k : ℕ) → pos 1073741824 ≤ℤ v → v ≤ℤ pos 2147418112 → 1 ≤ k → k ≤ 16 → (pos 16384 ≤ℤ asr v k) × (asr v k ≤ℤ pos 1073709056)
unfolding asr
shifted_in (pos v) k h l p q =
    let lo : 16384 ≤ v / 2 ^ k = (le-div_iff_mul-le (pow_pos k)).1 (omega (arith_ℤ, pow_mono q)) in
    let hi : v / 2 ^ k < 1073709057 = (div-lt_iff_lt-mul (pow_pos k)).1 (omega (arith_ℤ, pow_mono p)) in
    (le_in (omega arith), le_in (omega arith))
shifted_in (negsuc v) k h l p q = absurd h.le

pub root_range : (x : ℤ) → pos 0 <ℤ x → SFits w32 x → (pos 16384 ≤ℤ inverse_root x) × (inverse_root x ≤ℤ pos 1073709056)
root_range x p f =
    let r = root_plain x p f in
    rw r.is (shifted_in _ ((30 - r.n) / 2 + 1) r.from r.to (omega arith) (shift_most r.n))

pub root_from : (x : ℤ) → SFits w32 x → pos 0 ≤ℤ inverse_root x
root_from x f = go (le_z x (pos 0)) refl
  where
    go : (t : Bool) → le_z x (pos 0) ≡ t → pos 0 ≤ℤ inverse_root x
    go true e = rw (← root_none x e) (le_z_yes tt)
    go false e = ≤ℤ_trans (le_z_yes tt) (root_range x (at_most_no x (pos 0) e) f).0
