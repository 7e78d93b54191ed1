-- The tilt: its division is in order, and it lies in 0..=26214, for every row.
use Rattle.std.proofs.Common.{◌≡◌, refl, ap, ◌∙◌, Bool, true, false, cond, List, ℕ, ◌*◌, ◌/◌, ◌<◌, ◌≤◌, div-lt_iff_lt-mul, div-mul-le_self, arith, lit<, ℤ, pos, negsuc, ◌≤ℤ◌, ◌<ℤ◌, w16, SFits}
use Rattle.std.proofs.Math.Nat.{div-le_of_le-mul}
use Rattle.std.specs.Int.Signed.{le_z, le_z_yes}
use Rattle.lists.specs.Lists.{at, Every}
use Rattle.basicop.specs.Ops.{asr, mult, div_s}
use Rattle.basicop.specs.Divided.{Divided, undivided, divided, Divides}
use Rattle.basicop.proofs.Ints.{arith_ℤ, le_in, lt_in, <ℤ-≤ℤ}
use Rattle.basicop.proofs.Range.{sfits_range}
use Rattle.basicop.proofs.Shift.{asr_mono}
use Rattle.basicop.proofs.Naturals.{mult_pos}
use Rattle.basicop.proofs.Tests.{at_most_no}
use Rattle.basicop.proofs.Division.{div_s_less}
use Rattle.energy.specs.Energy.{squares}
use Rattle.energy.proofs.Sums.{squares_start}
use Rattle.postfilter.proofs.Correlations.{r1_le_r0, r0_fits}
use Rattle.postfilter.proofs.Impulses.{response_first, response_some}
use Rattle.postfilter.specs.Tilt.{r0, r1, tilt_of, response, tilt}
use Rattle.postfilter.specs.Tilted.{Tilted}

-- ---- the division: for 0 < a ≤ b, both of sixteen bits
module _ (a b : ℕ) (p : 0 < a) (l : a ≤ b) (t : b < 32768) where
  scaled_is : mult (pos a) (pos 26214) ≡ pos (a * 26214 / 32768)
  scaled_is = mult_pos a 26214 ∙ ap pos (omega (arith, (div-lt_iff_lt-mul {k = 32768} {x = a * 26214} {y = 32768} (lit< tt)).1 (omega arith)))

  -- the numerator is below the divisor
  scaled_lt : a * 26214 / 32768 < b
  scaled_lt = (div-lt_iff_lt-mul {k = 32768} {x = a * 26214} {y = b} (lit< tt)).1 (omega arith)

  quotient_is : (div_s (mult (pos a) (pos 26214)) (pos b)).value ≡ pos (a * 26214 / 32768 * 32768 / b)
  quotient_is = rw scaled_is (div_s_less (a * 26214 / 32768) b scaled_lt)

  quotient_top : a * 26214 / 32768 * 32768 / b ≤ 26214
  quotient_top = div-le_of_le-mul b (omega (arith, div-mul-le_self (a * 26214) 32768))

-- n / d is in order, and at most 26214
pub record Ratio (n d : ℤ) : Type 0 where
  pub from : pos 0 ≤ℤ n
  pub less : n <ℤ d
  pub divisor : pos 0 <ℤ d
  pub quotient_from : pos 0 ≤ℤ (div_s n d).value
  pub quotient_to : (div_s n d).value ≤ℤ pos 26214

ratio : (a b : ℤ) → pos 0 <ℤ a → a ≤ℤ b → SFits w16 b → Ratio (mult a (pos 26214)) b
ratio (pos a) (pos b) p l f =
    let q : 0 < a = omega arith_ℤ in
    let k : a ≤ b = omega arith_ℤ in
    let s = scaled_is a b q k f.sfits in
    let e = quotient_is a b q k f.sfits in
    record {
      from = rw s (le_in (omega arith));
      less = rw s (lt_in (omega (arith, scaled_lt a b q k f.sfits)));
      divisor = lt_in (omega arith);
      quotient_from = rw e (le_in (omega arith));
      quotient_to = rw e (le_in (omega (arith, quotient_top a b q k f.sfits)));
    }
ratio (pos a) (negsuc b) p l f = absurd l.le
ratio (negsuc a) b p l f = absurd p.lt

-- where the division is reached
pub tilt_division : (h : List ℤ) → pos 0 <ℤ r1 h → Ratio (mult (r1 h) (pos 26214)) (r0 h)
tilt_division h p = ratio (r1 h) (r0 h) p (r1_le_r0 h) (r0_fits h)

-- ---- by the test
pub tilt_none : (h : List ℤ) → le_z (r1 h) (pos 0) ≡ true → pos 0 ≡ (tilt_of h).value
unfolding tilt_of
tilt_none h e = rw e

pub tilt_some : (h : List ℤ) → le_z (r1 h) (pos 0) ≡ false → (div_s (mult (r1 h) (pos 26214)) (r0 h)).value ≡ (tilt_of h).value
unfolding tilt_of
tilt_some h e = rw e

-- what the division asks
pub tilt_asks : (h : List ℤ) → le_z (r1 h) (pos 0) ≡ false → (pos 0 ≤ℤ mult (r1 h) (pos 26214)) × (mult (r1 h) (pos 26214) ≤ℤ r0 h) × (pos 0 <ℤ r0 h)
tilt_asks h e = let r = tilt_division h (at_most_no (r1 h) (pos 0) e) in (r.from, <ℤ-≤ℤ r.less, r.divisor)

-- ---- the tilt of a row: of any list, whatever its length and its numbers
-- by the test, whatever is to be shown of the tilt with its quotients
by_test : (P : Divided ℤ → Type 0) (h : List ℤ) → P (undivided (pos 0)) → (pos 0 <ℤ r1 h → P (divided (mult (r1 h) (pos 26214)) (r0 h))) → P (tilt_of h)
unfolding tilt_of
by_test P h none some = go (le_z (r1 h) (pos 0)) refl
  where
    go : (t : Bool) → le_z (r1 h) (pos 0) ≡ t → P (cond t (undivided (pos 0)) (divided (mult (r1 h) (pos 26214)) (r0 h)))
    go true e = none
    go false e = some (at_most_no (r1 h) (pos 0) e)

abbrev Each : ℕ → Divided ℤ → Type 0
Each n d = Every (Divides n) d.quotients

divides : (n : ℕ) (h : List ℤ) → pos n ≤ℤ r0 h → (pos 0 <ℤ r1 h → Each n (divided (mult (r1 h) (pos 26214)) (r0 h)))
unfolding div_s
divides n h l p = (record { from = l; to = (sfits_range w16 (r0 h) (r0_fits h)).1 }, tt)

-- with a first coefficient of 4096, as every row of lpc has it, the divisor is 512 or more
pub divisor_from : (a : List ℤ) → at a 0 ≡ pos 4096 → pos 512 ≤ℤ r0 (response a)
unfolding asr
divisor_from a e =
    let h = response a in
    asr_mono (pos 33554432) (squares h) 16 (rw (response_first a e) at (squares_start h (response_some a)))

pub tilted : (a : List ℤ) → Tilted a
unfolding tilt
tilted a =
    let h = response a in
    record {
      from = by_test (λ (d : Divided ℤ). pos 0 ≤ℤ d.value) h (le_z_yes tt) (λ p. (tilt_division h p).quotient_from);
      to = by_test (λ (d : Divided ℤ). d.value ≤ℤ pos 26214) h (le_z_yes tt) (λ p. (tilt_division h p).quotient_to);
      numerator_from = λ p. (tilt_division h p).from;
      numerator_below = λ p. (tilt_division h p).less;
      divisors = by_test (Each 1) h tt (λ p. divides 1 h (omega (arith_ℤ, (tilt_division h p).divisor)) p);
      divisors_row = λ e. by_test (Each 512) h tt (divides 512 h (divisor_from a e));
    }
