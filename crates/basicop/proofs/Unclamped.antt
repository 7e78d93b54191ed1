-- Sums that no L_mac clamps, by the sizes of what is added.
use Rattle.std.proofs.Common.{◌≡◌, ⊎_elim, ℕ, zero, suc, ◌+◌, ◌*◌, ◌≤◌, ◌<◌, le_refl, le_of_suc-le-suc, eq-or-lt_of_le, mul-add, arith, ℤ, pos, nat_abs, ◌+ℤ◌, ◌*ℤ◌, w32}
use Rattle.std.proofs.Math.IntN.{+ℤ_idl}
use Rattle.basicop.specs.Ops.{l_add, l_mult, l_mac}
use Rattle.basicop.specs.Inner.{Unclamped, sizes}
use Rattle.basicop.proofs.Ints.{sfits_by}
use Rattle.basicop.proofs.Range.{nat_abs_is, nat_abs_add, mul_bound}
use Rattle.basicop.proofs.Clamp.{clamp_id}
use Rattle.basicop.proofs.Fits.{l_mult_fits}

pub unclamped_is : {s a b : ℤ} → Unclamped s a b → s +ℤ pos 2 *ℤ (a *ℤ b) ≡ l_mac s a b
unfolding l_add l_mult
unclamped_is u = rw (clamp_id w32 _ u.product, clamp_id w32 _ u.sum)

pub unclamped_eq : {s a a' b b' : ℤ} → a ≡ a' → b ≡ b' → Unclamped s a' b' → Unclamped s a b
unclamped_eq e f u = rw (e, f) u

-- a first step is a product
pub mac_first : (a b : ℤ) → l_mac (pos 0) a b ≡ l_mult a b
unfolding l_add
mac_first a b = rw (+ℤ_idl (l_mult a b)) (clamp_id w32 (l_mult a b) (l_mult_fits a b))

-- ---- by sizes
-- the first m weigh no more than the first n
pub sizes_most : (c : ℕ → ℤ) (m n : ℕ) → m ≤ n → sizes c m ≤ sizes c n
unfolding sizes
sizes_most c m zero h = let e : m ≡ 0 = omega arith in rw e (le_refl 0)
sizes_most c m (suc n) h =
    ⊎_elim
    (λ (e : m ≡ suc n). rw e (le_refl _))
    (λ (l : m < suc n). omega (arith, sizes_most c m n (le_of_suc-le-suc l)))
    (eq-or-lt_of_le h)

-- a step of a sum of products: m bounds the numbers, w and k the coefficients before it and its own
pub record Step (m w k : ℕ) (s a b : ℤ) : Type 0 where
  pub plain : Unclamped s a b
  pub size : nat_abs (l_mac s a b) ≤ 2 * (m * (w + k))

pub step : (m w k : ℕ) (s a b : ℤ) → nat_abs s ≤ 2 * (m * w) → nat_abs (a *ℤ b) ≤ m * k → m * (w + k) < 1073741824 → Step m w k s a b
step m w k s a b hs hp h =
    let p = pos 2 *ℤ (a *ℤ b) in
    let d = mul-add m w k in
    let one : nat_abs p ≤ 2 * (m * k) = mul_bound (pos 2) (a *ℤ b) (le_refl 2) hp in
    let all : nat_abs (s +ℤ p) ≤ 2 * (m * (w + k)) = omega (arith, nat_abs_add s p, one, d) in
    let u : Unclamped s a b = record { product = sfits_by (omega (arith, nat_abs_is p, one, d)); sum = sfits_by (omega (arith, nat_abs_is (s +ℤ p), all)) } in
    record { plain = u; size = rw (← unclamped_is u) all }
