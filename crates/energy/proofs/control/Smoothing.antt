-- agc: the smoothed gain. From 0..=32767 each step ends in 0..=32765, and forty steps at most at 32748.
use Rattle.std.proofs.Common.{◌≡◌, refl, ap, ℕ, zero, suc, min, ◌+◌, ◌*◌, ◌/◌, ◌<◌, ◌≤◌, div-lt_iff_lt-mul, arith, lit<, lit≤, ℤ, pos, negsuc, ◌≤ℤ◌}
use Rattle.std.proofs.Math.Pow.{shr_mono}
use Rattle.lists.specs.Lists.{iter}
use Rattle.basicop.specs.Ops.{clamp, sub}
use Rattle.basicop.proofs.Ints.{arith_ℤ, le_in, ≤ℤ_trans}
use Rattle.basicop.proofs.Naturals.{add_pos, mult_pos}
use Rattle.energy.specs.Gain.{target, smooth, smoothed}
use Rattle.energy.proofs.Gains.{Gain}

-- ---- the goal of the smoothing, from a gain: 0 to 3275
pub record Goal (t : ℤ) : Type 0 where
  pub from : pos 0 ≤ℤ t
  pub to : t ≤ℤ pos 3275

pub factor : sub (pos 32767) (pos 29491) ≡ pos 3276
unfolding sub clamp
factor = refl

div_bound : (a b m : ℕ) → a < b * m → 0 < m → a / m < b
div_bound a b m h p = (div-lt_iff_lt-mul p).1 h

pub target_in : (g : ℤ) → Gain g → Goal (target g)
target_in (pos a) h =
    let t : a * 3276 / 32768 < 3276 = div_bound (a * 3276) 3276 32768 (omega (arith_ℤ, h.to)) (lit< tt) in
    rw (factor, mult_pos a 3276) (record { from = le_in (omega arith); to = le_in (omega arith) })
target_in (negsuc a) h = absurd h.from.le

-- ---- one step clamps nothing, and ends in 0 to 32765
pub smooth_pos : (a b : ℕ) → a ≤ 32767 → b ≤ 3275 → smooth (pos b) (pos a) ≡ pos (a * 29491 / 32768 + b)
smooth_pos a b h l =
    let t : a * 29491 / 32768 < 29491 = div_bound (a * 29491) 29491 32768 (omega arith) (lit< tt) in
    let e : min (a * 29491 / 32768) 32767 ≡ a * 29491 / 32768 = omega arith in
    rw (mult_pos a 29491, e, add_pos (a * 29491 / 32768) b) (ap pos (omega arith))

-- one step, to the greatest goal
abbrev greatest : ℕ → ℕ → ℕ
greatest k a = a * 29491 / 32768 + 3275

greatest_top : (k a : ℕ) → a ≤ 32767 → greatest k a ≤ 32765
greatest_top k a h = omega (arith, div_bound (a * 29491) 29491 32768 (omega arith) (lit< tt))

greatest_mono : (k a b : ℕ) → a ≤ b → greatest k a ≤ greatest k b
greatest_mono k a b h = omega (arith, shr_mono {a = a * 29491} {b = b * 29491} 15 (omega arith))

-- after n steps: not negative, and at most what the greatest goal gives from the greatest gain
record Within (z : ℤ) (top : ℕ) : Type 0 where
  pub value : ℕ
  pub is : z ≡ pos value
  pub most : value ≤ top

within_i16 : (n : ℕ) → iter greatest n 32767 ≤ 32767
unfolding iter
within_i16 zero = lit≤ tt
within_i16 (suc n) = omega (arith, greatest_top n (iter greatest n 32767) (within_i16 n))

within : (a b : ℕ) → a ≤ 32767 → b ≤ 3275 → (n : ℕ) → Within (smoothed (pos b) n (pos a)) (iter greatest n 32767)
unfolding iter
within a b h l zero = record { value = a; is = refl; most = h }
within a b h l (suc n) =
    let w = within a b h l n in
    let v : w.value ≤ 32767 = omega (arith, w.most, within_i16 n) in
    record {
      value = w.value * 29491 / 32768 + b;
      is = rw w.is (smooth_pos w.value b v l);
      most = omega (arith, greatest_mono n w.value (iter greatest n 32767) w.most);
    }

within_out : {z : ℤ} {top : ℕ} → Within z top → (pos 0 ≤ℤ z) × (z ≤ℤ pos top)
within_out {z} {top} w = rw w.is (le_in (omega arith), le_in (omega (arith, w.most)))

steps : (t g : ℤ) → Goal t → Gain g → (n : ℕ) → Within (smoothed t n g) (iter greatest n 32767)
steps (pos b) (pos a) t g n = within a b (omega (arith_ℤ, g.to)) (omega (arith_ℤ, t.to)) n
steps (pos b) (negsuc a) t g n = absurd g.from.le
steps (negsuc b) g t h n = absurd t.from.le

-- ---- after any number of steps, after one or more, and after forty
pub smoothed_in : (t g : ℤ) → Goal t → Gain g → (n : ℕ) → Gain (smoothed t n g)
smoothed_in t g h k n =
    let w = within_out (steps t g h k n) in
    record { from = w.0; to = ≤ℤ_trans w.1 (le_in (omega (arith, within_i16 n))) }

top_after : (n : ℕ) → iter greatest (suc n) 32767 ≤ 32765
unfolding iter
top_after n = greatest_top n (iter greatest n 32767) (within_i16 n)

pub smoothed_top : (t g : ℤ) → Goal t → Gain g → (n : ℕ) → smoothed t (suc n) g ≤ℤ pos 32765
smoothed_top t g h k n = ≤ℤ_trans (within_out (steps t g h k (suc n))).1 (le_in (omega (arith, top_after n)))

top_forty : iter greatest 40 32767 ≡ 32748
unfolding iter
top_forty = refl

pub smoothed_forty : (t g : ℤ) → Goal t → Gain g → smoothed t 40 g ≤ℤ pos 32748
smoothed_forty t g h k = rw top_forty at (within_out (steps t g h k 40)).1
