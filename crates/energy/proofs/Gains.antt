-- The gain of agc and agc2: the ranges of the two operands of its division, and of the gain.
use Rattle.std.proofs.Common.{◌≡◌, refl, ap, ◌∙◌, ℕ, zero, suc, min, ◌+◌, ◌*◌, ◌/◌, ◌^◌, ◌<◌, ◌≤◌, pow-suc, div-add-mod', mod-lt, div-lt_iff_lt-mul, le-div_iff_mul-le, arith, lit<, lit≤, ℤ, pos, negsuc, ◌≤ℤ◌, ◌<ℤ◌, w32, SFits}
use Rattle.std.specs.Int.Signed.{le_z_yes, lt_z_yes, <ℤ-≤ℤ_trans}
use Rattle.basicop.specs.Ops.{clamp, sub, l_shl, l_shr, round, div_s, norm_l}
use Rattle.basicop.proofs.Ints.{arith_ℤ, le_in, ≤ℤ_trans}
use Rattle.basicop.proofs.Norm.{Normalised, normalised}
use Rattle.basicop.proofs.Shift.{asr_same}
use Rattle.basicop.proofs.Fits.{l_shl_fits}
use Rattle.basicop.proofs.Naturals.{asr_pos, sub_pos, l_shl_pos, round_pos}
use Rattle.energy.specs.Root.{inverse_root}
use Rattle.energy.specs.Gain.{exp_out, gain_out, gain_in, ratio, gain_from, energy_gain}
use Rattle.energy.proofs.Tests.{above_zero}
use Rattle.energy.proofs.root.Plain.{root_from}

-- ---- the rounded high word of y
round_from : (y a : ℕ) → a * 65536 ≤ y + 32768 → a * 65536 ≤ 2147483647 → pos a ≤ℤ round (pos y)
round_from y a h k = rw (round_pos y) (le_in (omega (arith, (le-div_iff_mul-le {k = 65536} {x = a} {y = min (y + 32768) 2147483647} (lit< tt)).1 (omega arith))))

round_to : (y b : ℕ) → min (y + 32768) 2147483647 < (b + 1) * 65536 → round (pos y) ≤ℤ pos b
round_to y b h = rw (round_pos y) (le_in (omega (arith, (div-lt_iff_lt-mul {k = 65536} {x = min (y + 32768) 2147483647} {y = b + 1} (lit< tt)).1 h)))

-- ---- gain_out, with one bit to spare: 8192 to 16384
half_range : (y : ℕ) → 536870912 ≤ y → y < 1073741824 → (pos 8192 ≤ℤ round (pos y)) × (round (pos y) ≤ℤ pos 16384)
half_range y h k = (round_from y 8192 (omega arith) (lit≤ tt), round_to y 16384 (omega arith))

exp_none : sub (pos 0) (pos 1) ≡ negsuc 0
unfolding sub clamp
exp_none = refl

exp_some : (n : ℕ) → suc n ≤ 30 → sub (pos (suc n)) (pos 1) ≡ pos n
exp_some n h = sub_pos (suc n) 1 (omega arith) ∙ ap pos (omega arith)

halved : (a : ℕ) → l_shl (pos a) (negsuc 0) ≡ pos (a / 2)
unfolding l_shl
halved a = asr_pos a 1

spare : (a n : ℕ) → Normalised (pos a) n → (pos 8192 ≤ℤ round (l_shl (pos a) (sub (pos n) (pos 1)))) × (round (l_shl (pos a) (sub (pos n) (pos 1))) ≤ℤ pos 16384)
spare a zero h =
    rw (exp_none, halved a) (half_range (a / 2) (omega (arith_ℤ, h.from, div-add-mod' a 2, mod-lt a {m = 2} (lit< tt))) (omega (arith_ℤ, h.below, div-add-mod' a 2)))
spare a (suc m) h =
    let p : 2 ^ suc m ≡ 2 ^ m * 2 = pow-suc 2 m in
    let l : 1073741824 ≤ a * (2 ^ m * 2) = omega (arith_ℤ, rw p at h.from) in
    let u : a * (2 ^ m * 2) < 2147483648 = omega (arith_ℤ, rw p at h.below) in
    let e : min (a * 2 ^ m) 2147483647 ≡ a * 2 ^ m = omega arith in
    rw (exp_some m h.most, l_shl_pos a m, e) (half_range (a * 2 ^ m) (omega arith) (omega arith))

pub gain_out_range : (x : ℤ) → pos 0 <ℤ x → SFits w32 x → (pos 8192 ≤ℤ gain_out x) × (gain_out x ≤ℤ pos 16384)
gain_out_range (pos a) p f =
    let h = normalised (pos a) p f in
    rw h.1.count (spare a h.0 h.1)
gain_out_range (negsuc a) p f = absurd p.lt

-- ---- gain_in, with none: 16384 to 32767
full : (a n : ℕ) → Normalised (pos a) n → (pos 16384 ≤ℤ round (l_shl (pos a) (pos n))) × (round (l_shl (pos a) (pos n)) ≤ℤ pos 32767)
full a n h = rw h.shifted (round_from (a * 2 ^ n) 16384 (omega (arith_ℤ, h.from)) (lit≤ tt), round_to (a * 2 ^ n) 32767 (omega arith))

pub gain_in_range : (x : ℤ) → pos 0 <ℤ x → SFits w32 x → (pos 16384 ≤ℤ gain_in x) × (gain_in x ≤ℤ pos 32767)
gain_in_range (pos a) p f =
    let h = normalised (pos a) p f in
    rw h.1.count (full a h.0 h.1)
gain_in_range (negsuc a) p f = absurd p.lt

-- so the division is one: the divisor is not 0, and the numerator not above it
pub gain_divides_lem : (x y : ℤ) → pos 0 <ℤ x → SFits w32 x → pos 0 <ℤ y → SFits w32 y → (pos 0 ≤ℤ gain_out x) × (gain_out x ≤ℤ gain_in y) × (pos 0 <ℤ gain_in y)
gain_divides_lem x y p f q g =
    let o = gain_out_range x p f in
    let i = gain_in_range y q g in
    (≤ℤ_trans (le_z_yes tt) o.0, ≤ℤ_trans o.1 i.0, <ℤ-≤ℤ_trans (lt_z_yes tt) i.0)

-- ---- the gain: 0 to 32767, whatever the energies and the quotient are
rounded_in : (v : ℤ) → pos 0 ≤ℤ v → (pos 0 ≤ℤ round (l_shl v (pos 9))) × (round (l_shl v (pos 9)) ≤ℤ pos 32767)
rounded_in (pos v) h =
    rw (l_shl_pos v 9) (round_from (min (v * 512) 2147483647) 0 (omega arith) (lit≤ tt), round_to (min (v * 512) 2147483647) 32767 (omega arith))
rounded_in (negsuc v) h = absurd h.le

shr_fits : (x n : ℤ) → SFits w32 x → SFits w32 (l_shr x n)
shr_fits x (pos n) f = asr_same w32 x n f
shr_fits x (negsuc n) f = l_shl_fits x (pos (suc n)) f

pub record Gain (g : ℤ) : Type 0 where
  pub from : pos 0 ≤ℤ g
  pub to : g ≤ℤ pos 32767

pub gain_from_in : (out into q : ℤ) → SFits w32 q → Gain (gain_from out into q)
gain_from_in out into q f =
    let r = rounded_in (inverse_root (ratio out into q)) (root_from (ratio out into q) (shr_fits (l_shl q (pos 7)) (sub (exp_out out) (norm_l into)) (l_shl_fits q (pos 7) f))) in
    record { from = r.0; to = r.1 }

-- ---- by the test
pub gain_none : (out into : ℤ) → into ≡ pos 0 → pos 0 ≡ (energy_gain out into).value
unfolding energy_gain
gain_none out into e = rw e

pub gain_some : (out into : ℤ) → pos 0 <ℤ into → gain_from out into (div_s (gain_out out) (gain_in into)).value ≡ (energy_gain out into).value
unfolding energy_gain
gain_some out into p = rw (above_zero into p)
