-- The way between two entries of a table: where a position lies, and that no step between two entries of 0..=32767 clamps, whether they rise or fall.
use Rattle.std.proofs.Common.{◌≡◌, refl, ap, List, ℕ, ◌+◌, ◌*◌, ◌-◌, ◌/◌, ◌<◌, ◌≤◌, div-lt_iff_lt-mul, le-div_iff_mul-le, mul-le-mul_right, le_refl, arith, lit<, ℤ, pos, negsuc, nat_abs, ◌+ℤ◌, ◌-ℤ◌, ◌*ℤ◌, length, ◌≤ℤ◌, ◌<ℤ◌, w16, w32, SFits}
use Rattle.basicop.specs.Ops.{asr, sub, l_sub, l_mult, extract_h, l_deposit_h, l_extract}
use Rattle.basicop.specs.Interpolation.{position_of, between}
use Rattle.basicop.specs.declared.Dpf.{Dpf}
use borrow.Author.Differences.{sum_is_lem, product_is}
use Rattle.basicop.proofs.Ints.{arith_ℤ, le_in, lt_in, sfits_by, sub_ℤ_is}
use Rattle.basicop.proofs.Range.{nat_abs_is, mul_bound, abs_by}
use Rattle.basicop.proofs.Shift.{mod_z_lt}
use Rattle.basicop.proofs.Clamp.{clamp_id}
use Rattle.basicop.proofs.Naturals.{minus, asr_pos}
use Rattle.basicop.proofs.Split.{extract_is}

-- ---- the position of x: its index is the plain difference, in 0 .. n - 1, and its fraction in 0..=32767
pub record Within (n : ℕ) (base x : ℤ) : Type 0 where
  pub plain : (position_of base x).index ≡ extract_h x -ℤ base
  pub from : pos 0 ≤ℤ (position_of base x).index
  pub below : (position_of base x).index <ℤ pos n
  pub fraction_from : pos 0 ≤ℤ (position_of base x).fraction
  pub fraction_to : (position_of base x).fraction ≤ℤ pos 32767

-- where the high word of x lies in base .. base + n - 1
pub within : (base n x : ℕ) → base * 65536 ≤ x → x < (base + n) * 65536 → n ≤ 32768 → Within n (pos base) (pos x)
unfolding sub
within base n x h l s =
    let b : base ≤ x / 65536 = (le-div_iff_mul-le {k = 65536} {x = base} {y = x} (lit< tt)).1 h in
    let t : x / 65536 < base + n = (div-lt_iff_lt-mul {k = 65536} {x = x} {y = base + n} (lit< tt)).1 l in
    let d = minus (x / 65536) base b in
    let e : sub (extract_h (pos x)) (pos base) ≡ pos (x / 65536 - base) = rw (asr_pos x 16, d) (clamp_id w16 (pos (x / 65536 - base)) (record { sfits = omega arith })) in
    record {
      plain = rw (e, asr_pos x 16, d) refl;
      from = rw e (le_in (omega arith));
      below = rw e (lt_in (omega arith));
      fraction_from = le_in (omega arith);
      fraction_to = le_in (omega (arith, mod_z_lt (asr (pos x) 1) 32768 (lit< tt)));
    }

-- of what is normalised, shifted by 9: from base * 2 ^ 25 on, up to 2 ^ 31 - 1
pub normal_within : (base : ℕ) (y : ℤ) → base ≤ 64 → pos (base * 33554432) ≤ℤ y → y <ℤ pos 2147483648 → Within (64 - base) (pos base) (asr y 9)
normal_within base (pos y) s h l =
    rw (asr_pos y 9)
    (within base (64 - base) (y / 512) ((le-div_iff_mul-le {k = 512} {x = base * 65536} {y = y} (lit< tt)).1 (omega arith_ℤ)) ((div-lt_iff_lt-mul {k = 512} {x = y} {y = (base + (64 - base)) * 65536} (lit< tt)).1 (omega arith_ℤ)) (omega arith))
normal_within base (negsuc y) s h l = absurd h.le

-- ---- between two entries t and u of 0..=32767, at a fraction a of 0..=32767
-- the three operators clamp nothing, and the value lies between the entries, as high words
pub record Between (t u a : ℤ) : Type 0 where
  pub difference : sub t u ≡ t -ℤ u
  pub product : l_mult (t -ℤ u) a ≡ pos 2 *ℤ ((t -ℤ u) *ℤ a)
  pub value : between t u a ≡ t *ℤ pos 65536 -ℤ pos 2 *ℤ ((t -ℤ u) *ℤ a)
  pub from : (m : ℕ) → pos m ≤ℤ t → pos m ≤ℤ u → pos (m * 65536) ≤ℤ between t u a
  pub to : (m : ℕ) → t ≤ℤ pos m → u ≤ℤ pos m → between t u a ≤ℤ pos (m * 65536)
  pub least : pos 0 ≤ℤ between t u a
  pub most : between t u a ≤ℤ pos 2147418112

-- the entries by their shares of 65536
shares : (t u a : ℕ) → a ≤ 32767 → pos t *ℤ pos 65536 -ℤ pos 2 *ℤ ((pos t -ℤ pos u) *ℤ pos a) ≡ pos (t * (65536 - 2 * a) + u * (2 * a))
shares t u a h =
    let d = pos t -ℤ pos u in
    let p = d *ℤ pos a in
    let k : 65536 - 2 * a + 2 * a ≡ 65536 = omega arith in
    omega (arith_ℤ, sub_ℤ_is (pos t *ℤ pos 65536) (pos 2 *ℤ p), product_is (pos 2) p, product_is d (pos a), ap (λ (n : ℕ). n * a) (sub_ℤ_is (pos t) (pos u)), ap (λ (n : ℕ). t * n) k)

module _ (t u a : ℕ) (h : a ≤ 32767) where
  shared_from : (m : ℕ) → m ≤ t → m ≤ u → m * 65536 ≤ t * (65536 - 2 * a) + u * (2 * a)
  shared_from m l r =
      let k : 65536 - 2 * a + 2 * a ≡ 65536 = omega arith in
      omega (arith, ap (λ (n : ℕ). m * n) k, mul-le-mul_right (65536 - 2 * a) l, mul-le-mul_right (2 * a) r)

  shared_to : (m : ℕ) → t ≤ m → u ≤ m → t * (65536 - 2 * a) + u * (2 * a) ≤ m * 65536
  shared_to m l r =
      let k : 65536 - 2 * a + 2 * a ≡ 65536 = omega arith in
      omega (arith, ap (λ (n : ℕ). m * n) k, mul-le-mul_right (65536 - 2 * a) l, mul-le-mul_right (2 * a) r)

pub step : (t u a : ℤ) → pos 0 ≤ℤ t → t ≤ℤ pos 32767 → pos 0 ≤ℤ u → u ≤ℤ pos 32767 → pos 0 ≤ℤ a → a ≤ℤ pos 32767 → Between t u a
unfolding sub l_mult l_sub l_deposit_h
step (pos t) (pos u) (pos a) _ ht _ hu _ ha =
    let it : t ≤ 32767 = omega arith_ℤ in
    let iu : u ≤ 32767 = omega arith_ℤ in
    let ia : a ≤ 32767 = omega arith_ℤ in
    let d = pos t -ℤ pos u in
    let size : nat_abs d ≤ 32767 = abs_by d (omega (arith, sub_ℤ_is (pos t) (pos u))) (omega (arith, sub_ℤ_is (pos t) (pos u))) in
    let e = shares t u a ia in
    let difference = clamp_id w16 d (sfits_by (omega (arith, nat_abs_is d))) in
    let product = clamp_id w32 (pos 2 *ℤ (d *ℤ pos a)) (sfits_by (omega (arith, nat_abs_is (pos 2 *ℤ (d *ℤ pos a)), mul_bound (pos 2) (d *ℤ pos a) (le_refl 2) (mul_bound d (pos a) size ia)))) in
    let value : between (pos t) (pos u) (pos a) ≡ pos t *ℤ pos 65536 -ℤ pos 2 *ℤ (d *ℤ pos a) =
    rw (difference, product) (clamp_id w32 _ (rw e (record { sfits = omega (arith, shared_to t u a ia 32767 it iu) }))) in
    record {
      difference = difference;
      product = product;
      value = value;
      from = λ m h l. rw (value, e) (le_in (omega (arith, shared_from t u a ia m (omega arith_ℤ) (omega arith_ℤ))));
      to = λ m h l. rw (value, e) (le_in (omega (arith, shared_to t u a ia m (omega arith_ℤ) (omega arith_ℤ))));
      least = rw (value, e) (le_in (omega arith));
      most = rw (value, e) (le_in (omega (arith, shared_to t u a ia 32767 it iu)));
    }
step (pos t) (pos u) (negsuc a) _ _ _ _ h _ = absurd h.le
step (pos t) (negsuc u) a _ _ h _ _ _ = absurd h.le
step (negsuc t) u a h _ _ _ _ _ = absurd h.le

-- ---- what `interpolate` asks: an index below n, in a table of n + 1 entries
pub has_next : {n : ℕ} {base x : ℤ} (t : List ℤ) → Within n base x → length t ≡ n + 1 → (pos 0 ≤ℤ (position_of base x).index) × (((position_of base x).index +ℤ pos 1) <ℤ pos (length t))
has_next {n} {base} {x} t w e = rw e (w.from, omega (arith_ℤ, w.below, sum_is_lem (position_of base x).index (pos 1)))

-- L_Extract's halves are the high word, and the low 15 bits of x >> 1
pub halves : (base x : ℤ) (d : Dpf) → SFits w32 x → d ≡ l_extract x → record { index = sub d.hi base; fraction = d.lo } ≡ position_of base x
halves base x d f e = rw (e, extract_is x f)
