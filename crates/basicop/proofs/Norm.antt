-- norm_l: the two bounds of what it normalises, and that the count of leading zeros finds it.
use Rattle.std.proofs.Common.{◌≡◌, refl, sym, ap, ◌∙◌, subst, Bool, true, false, cond, ℕ, zero, suc, zero-le, suc-le-suc, ◌+◌, ◌*◌, ◌-◌, ◌^◌, ◌<◌, ◌≤◌, pow-suc, mul-le-mul_left, mul-le-mul_right, mul-lt-mul_of_pos_right, lt_irrefl, le_refl, lt_of_mul-lt-mul_right, arith, ltb-true, ltb-false, ltb, ltb→lt, lit≤, pow_mono, pow_pos, pow-add, ℤ, pos, negsuc, ◌*ℤ◌, ◌≤ℤ◌, ◌<ℤ◌, w32, SFits}
use Rattle.std.proofs.Math.Nat.{pow-zero}
use Rattle.std.specs.Int.Count.{count_leading_zeros, leading_of_zero, leading_top}
use Rattle.basicop.specs.Ops.{doublings, norm_l, l_shl}
use borrow.Author.Differences.{product_is}
use Rattle.basicop.proofs.Ints.{arith_ℤ}
use Rattle.basicop.proofs.Clamp.{clamp_id}

-- n · 2 ^ k has its highest digit at 2 ^ 30
pub record Normal (n k : ℕ) : Type 0 where
  pub from : 1073741824 ≤ n * 2 ^ k
  pub below : n * 2 ^ k < 2147483648

-- the doublings come to an end with n normal, where f of them suffice
doublings_is : (f n : ℕ) → n < 2147483648 → 1073741824 ≤ n * 2 ^ f → Normal n (doublings f n)
unfolding doublings
doublings_is zero n h l = record { from = l; below = rw pow-zero (omega arith) }
doublings_is (suc f) n h l = go (ltb n 1073741824) refl (λ u v. doublings_is f (2 * n) u v)
  where
    go : (t : Bool) → ltb n 1073741824 ≡ t → (2 * n < 2147483648 → 1073741824 ≤ (2 * n) * 2 ^ f → Normal (2 * n) (doublings f (2 * n))) → Normal n (cond t (suc (doublings f (2 * n))) 0)
    go true e rest =
        let small : n < 1073741824 = ltb-true n 1073741824 e in
        let r = rest (omega arith) (omega (arith, rw (pow-suc 2 f) at l)) in
        record {
          from = rw (pow-suc 2 (doublings f (2 * n))) (omega (arith, r.from));
          below = rw (pow-suc 2 (doublings f (2 * n))) (omega (arith, r.below));
        }
    go false e rest =
        let big : 1073741824 ≤ n = ltb-false n 1073741824 e in
        record { from = omega arith; below = omega arith }

pub doublings_normal : (n : ℕ) → 0 < n → n < 2147483648 → Normal n (doublings 30 n)
doublings_normal n p h = doublings_is 30 n h (omega arith)

-- there is one such count
not_less : (n j k : ℕ) → Normal n j → Normal n k → j < k → ⊥
not_less n j k p q l = omega (arith, p.from, q.below, rw (pow-suc 2 j) at (mul-le-mul_left n (pow_mono {i = suc j} {j = k} l)))

pub normal_one : (n j k : ℕ) → Normal n j → Normal n k → j ≡ k
normal_one n j k p q = omega (arith, not_less n j k p q, not_less n k j q p)

-- ---- the count of leading zeros
-- the count l of zeros above the highest of 32 digits, with j digits below that
placed : (n l j : ℕ) → l + suc j ≡ 32 → 2 ^ j ≤ n → n < 2 ^ suc j → n < 2147483648 → (1 ≤ l) × Normal n (l - 1)
placed n zero j e lo hi h = absurd (over (ap (λ (k : ℕ). 2 ^ k) (last e)))
  where
    last : 0 + suc j ≡ 32 → j ≡ 31
    last e = omega arith

    over : 2 ^ j ≡ 2 ^ 31 → ⊥
    over p = omega arith
placed n (suc k) j e lo hi h =
    let s : suc k - 1 ≡ k = omega arith in
    let f : j + k ≡ 30 = omega arith in
    let g : suc j + k ≡ 31 = omega arith in (
      omega arith,
      rw s (record {
        from = subst (λ (m : ℕ). m ≤ n * 2 ^ k) (sym (pow-add 2 j k) ∙ ap (λ (m : ℕ). 2 ^ m) f) (mul-le-mul_right (2 ^ k) lo);
        below = subst (λ (m : ℕ). n * 2 ^ k < m) (sym (pow-add 2 (suc j) k) ∙ ap (λ (m : ℕ). 2 ^ m) g) (mul-lt-mul_of_pos_right hi (pow_pos k));
      }),
    )

leading_is : (n : ℕ) → 0 < n → n < 2147483648 → (1 ≤ count_leading_zeros 32 n) × Normal n (count_leading_zeros 32 n - 1)
leading_is n p h =
    let t = leading_top 32 n p (omega arith) in
    placed n (count_leading_zeros 32 n) t.0 t.1 t.2 t.3 h

pub leading_from : (n : ℕ) → n < 2147483648 → 1 ≤ count_leading_zeros 32 n
leading_from zero h = rw (leading_of_zero 32) (lit≤ tt)
leading_from (suc n) h = (leading_is (suc n) (omega arith) h).0

pub leading_doublings : (n : ℕ) → 0 < n → n < 2147483648 → count_leading_zeros 32 n - 1 ≡ doublings 30 n
leading_doublings n p h = normal_one n _ _ (leading_is n p h).1 (doublings_normal n p h)

-- ---- norm_l by the doublings, and by the leading zeros
pub norm_pos : (n : ℕ) → 0 < n → n < 2147483648 → norm_l (pos n) ≡ pos (doublings 30 n)
unfolding norm_l
norm_pos zero p h = absurd (lt_irrefl 0 p)
norm_pos (suc n) p h = refl

pub norm_zero : norm_l (pos 0) ≡ pos 0
unfolding norm_l
norm_zero = refl

-- norm_l goes by the leading zeros of x, or of its complement
pub norm_leading : (n : ℕ) → 0 < n → n < 2147483648 → pos (count_leading_zeros 32 n - 1) ≡ norm_l (pos n)
norm_leading n p h = ap pos (leading_doublings n p h) ∙ sym (norm_pos n p h)

pub norm_leading_neg : (n : ℕ) → n < 2147483648 → pos (count_leading_zeros 32 n - 1) ≡ norm_l (negsuc n)
unfolding norm_l
norm_leading_neg zero h = rw (leading_of_zero 32)
norm_leading_neg (suc n) h = ap pos (leading_doublings (suc n) (omega arith) h)

-- the count is 0 to 31
doublings_le : (f n : ℕ) → doublings f n ≤ f
unfolding doublings
doublings_le zero n = le_refl 0
doublings_le (suc f) n = go (ltb n 1073741824) (doublings_le f (2 * n))
  where
    go : (t : Bool) → doublings f (2 * n) ≤ f → cond t (suc (doublings f (2 * n))) 0 ≤ suc f
    go true l = suc-le-suc l
    go false l = zero-le

-- ---- norm_l's two bounds: what is above 0 comes to 2 ^ 30 .. 2 ^ 31 - 1, and shifted so far to the left it does not clamp; what is below -1 comes to -2 ^ 31 .. -2 ^ 30 - 1
pub record Normalised (x : ℤ) (n : ℕ) : Type 0 where
  pub count : norm_l x ≡ pos n
  pub most : n ≤ 30
  pub shifted : l_shl x (pos n) ≡ x *ℤ pos (2 ^ n)
  pub from : pos 1073741824 ≤ℤ (x *ℤ pos (2 ^ n))
  pub below : (x *ℤ pos (2 ^ n)) <ℤ pos 2147483648

pub normalised : (x : ℤ) → pos 0 <ℤ x → SFits w32 x → (n : ℕ) × Normalised x n
unfolding l_shl
normalised (pos a) p f =
    let q : 0 < a = omega arith_ℤ in
    let n = doublings 30 a in
    let h = doublings_normal a q f.sfits in
    (n, record { count = norm_pos a q f.sfits; most = doublings_le 30 a; shifted = clamp_id w32 (pos (a * 2 ^ n)) (record { sfits = h.below }); from = omega (arith_ℤ, h.from); below = omega (arith_ℤ, h.below) })
normalised (negsuc a) p f = absurd p.lt

pub norm_below : (x : ℤ) → x <ℤ negsuc 0 → SFits w32 x → (n : ℕ) × (norm_l x ≡ pos n) × (n ≤ 30) × (negsuc 2147483647 ≤ℤ (x *ℤ pos (2 ^ n))) × ((x *ℤ pos (2 ^ n)) <ℤ negsuc 1073741823)
unfolding norm_l
norm_below (pos a) p f = absurd p.lt
norm_below (negsuc zero) p f = absurd (lt_irrefl 0 (ltb→lt 0 0 p.lt))
norm_below (negsuc (suc a)) p f =
    let h = doublings_normal (suc a) (omega arith) f.sfits in
    let n = doublings 30 (suc a) in
    let z = product_is (negsuc (suc a)) (pos (2 ^ n)) in
    (n, refl, doublings_le 30 (suc a), omega (arith_ℤ, z, whole (suc a) n (doublings_le 30 (suc a)) h.below), omega (arith_ℤ, z, h.from, pow_pos n))
  where
    -- 2 ^ n divides 2 ^ 31, so the next multiple of it is not beyond
    whole : (a n : ℕ) → n ≤ 30 → a * 2 ^ n < 2147483648 → suc a * 2 ^ n ≤ 2147483648
    whole a n l h =
        let k : 2 ^ (31 - n) * 2 ^ n ≡ 2147483648 = sym (pow-add 2 (31 - n) n) ∙ ap (λ (i : ℕ). 2 ^ i) {x = 31 - n + n} {y = 31} (omega arith) in
        let b : a < 2 ^ (31 - n) = lt_of_mul-lt-mul_right (2 ^ n) (omega (arith, k)) in
        omega (arith, k, mul-le-mul_right (2 ^ n) b)
