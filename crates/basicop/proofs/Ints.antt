-- ℤ by its two parts, as std reads it: z is up z - down z, one of which is 0. Every linear fact over ℤ is one over ℕ.
use Rattle.std.proofs.Common.{◌≡◌, ℕ, suc, max, ◌+◌, ◌^◌, ◌<◌, ◌≤◌, arith, ℤ, pos, negsuc, neg_ℤ, ◌-ℤ◌, ◌≤ℤ◌, ◌<ℤ◌, SFits}
use borrow.Author.Differences.{up, down, le_out, lt_out, same_out, at_most_in, below_in, same_in, sum_is_lem, neg_is}
use Rattle.std.specs.Int.Signed.{mag}
use Rattle.std.specs.Int.{Width}
use mir.Val.{hbits}

-- std's laws of the order at a goal, with the numbers found
pub le_in : {a b : ℤ} → up a + down b ≤ up b + down a → a ≤ℤ b
le_in {a} {b} h = at_most_in a b h

pub lt_in : {a b : ℤ} → up a + down b < up b + down a → a <ℤ b
lt_in {a} {b} h = below_in a b h

-- a difference. Of a sum and a product std has `sum_is_lem` and `product_is`
pub sub_ℤ_is : (a b : ℤ) → up (a -ℤ b) + (down a + up b) ≡ down (a -ℤ b) + (up a + down b)
sub_ℤ_is a b = omega (arith, sum_is_lem a (neg_ℤ b), neg_is b)

-- ---- a width's range
-- both at once, as one statement for `omega`
pub sfits_out : {w : Width} {z : ℤ} → SFits w z → max (suc (up z)) (down z) ≤ 2 ^ hbits w
sfits_out {w} {z} h = go z h.sfits
  where
    go : (z : ℤ) → mag z < 2 ^ hbits w → max (suc (up z)) (down z) ≤ 2 ^ hbits w
    go (pos n) h = omega arith
    go (negsuc n) h = omega arith

mag_in : (z : ℤ) (k : ℕ) → up z < k + down z → down z ≤ k + up z → mag z < k
mag_in (pos n) k h l = omega arith
mag_in (negsuc n) k h l = omega arith

-- a range is shown by `sfits_by (omega (arith_ℤ, ..))`
pub sfits_by : {w : Width} {z : ℤ} → (up z < 2 ^ hbits w + down z) × (down z ≤ 2 ^ hbits w + up z) → SFits w z
sfits_by {w} {z} h = record { sfits = mag_in z (2 ^ hbits w) h.0 h.1 }

-- what `omega` is handed for a fact of ℤ: facts in reach are read by `le_out` and its like, and a goal is turned by `at_most_in` and its like.
-- An operation that stands in the goal or in a fact is listed besides, as `sum_is_lem a b`
pub ruleset arith_ℤ = (arith, le_out, lt_out, same_out, at_most_in, below_in, same_in, sfits_out)

-- ---- the order's laws
pub ≤ℤ_trans : {a b c : ℤ} → a ≤ℤ b → b ≤ℤ c → a ≤ℤ c
≤ℤ_trans h k = omega arith_ℤ

pub ≤ℤ_antisym : {a b : ℤ} → a ≤ℤ b → b ≤ℤ a → a ≡ b
≤ℤ_antisym {a} {b} h k = omega arith_ℤ

pub <ℤ-≤ℤ : {a b : ℤ} → a <ℤ b → a ≤ℤ b
<ℤ-≤ℤ h = omega arith_ℤ
