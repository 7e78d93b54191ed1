-- Phase and start of a lag in ℕ, and the places that a prediction reads.
use Rattle.std.proofs.Common.{◌≡◌, refl, sym, ap, ◌∙◌, ℕ, ◌+◌, ◌-◌, ◌*◌, ◌<◌, ◌≤◌, arith, lit<, lit≤, ℤ, pos, ◌-ℤ◌}
use Rattle.basicop.specs.Ops.{clamp, add, sub, shl}
use Rattle.basicop.proofs.Naturals.{minus}
use Rattle.pitch.specs.Lag.{thirds_of, lag_of}
use Rattle.pitch.specs.declared.Fraction.{Fraction}
use Rattle.pitch.specs.declared.Fraction.TheVariants.{MinusThird, Zero, PlusThird}
use Rattle.pitch.specs.declared.PitchLag.{PitchLag}
use Rattle.adaptive.specs.Predict.{phase, start}

-- the phase of each fraction
abbrev pub phase_of : Fraction → ℕ
phase_of MinusThird = 2
phase_of Zero = 0
phase_of PlusThird = 4

-- the start of a lag of t samples and a fraction
abbrev pub start_of : ℕ → Fraction → ℕ
start_of t MinusThird = 154 - t
start_of t Zero = 154 - t
start_of t PlusThird = 154 - t - 1

phase_at : (t : ℤ) (f : Fraction) → phase (record { samples = t; thirds = thirds_of f }) ≡ pos (phase_of f)
unfolding phase shl sub add clamp
phase_at t MinusThird = refl
phase_at t Zero = refl
phase_at t PlusThird = refl

start_at : (t : ℕ) (f : Fraction) → t ≤ 144 → start (record { samples = pos t; thirds = thirds_of f }) ≡ pos (start_of t f)
unfolding start shl sub clamp
start_at t MinusThird h = minus 154 t (omega arith)
start_at t Zero h = minus 154 t (omega arith)
start_at t PlusThird h = ap (λ (z : ℤ). z -ℤ pos 1) (minus 154 t (omega arith)) ∙ minus (154 - t) 1 (omega arith)

-- of a lag whose fraction is known, as a `match` leaves it
pub phase_by : (l : PitchLag) (f : Fraction) → l.fraction ≡ f → pos (phase_of f) ≡ phase (lag_of l)
phase_by l f e = sym (phase_at (pos l.samples) f) ∙ rw (← e)

pub start_by : (l : PitchLag) (f : Fraction) → l.samples ≤ 144 → l.fraction ≡ f → pos (start_of l.samples f) ≡ start (lag_of l)
start_by l f h e = sym (start_at l.samples f h) ∙ rw (← e)

pub phase_is : (l : PitchLag) → phase (lag_of l) ≡ pos (phase_of l.fraction)
phase_is l = phase_at (pos l.samples) l.fraction

pub start_is : (l : PitchLag) → l.samples ≤ 144 → start (lag_of l) ≡ pos (start_of l.samples l.fraction)
start_is l h = start_at l.samples l.fraction h

-- how far back a sample reads beyond its lag
abbrev pub reach_of : Fraction → ℕ
reach_of MinusThird = 9
reach_of Zero = 9
reach_of PlusThird = 10

pub phase_top : (f : Fraction) → phase_of f ≤ 4
phase_top MinusThird = lit≤ tt
phase_top Zero = lit≤ tt
phase_top PlusThird = lit≤ tt

pub reach_range : (f : Fraction) → (9 ≤ reach_of f) × (reach_of f ≤ 10)
reach_range MinusThird = (lit≤ tt, lit≤ tt)
reach_range Zero = (lit≤ tt, lit≤ tt)
reach_range PlusThird = (lit≤ tt, lit≤ tt)

pub start_reach : (t : ℕ) (f : Fraction) → t ≤ 144 → start_of t f + (t + reach_of f) ≡ 163
start_reach t MinusThird h = omega arith
start_reach t Zero h = omega arith
start_reach t PlusThird h = omega arith

-- what turn i of sample n reads, at a lag of t samples and the fraction f
pub record Reads (t : ℕ) (f : Fraction) (n i : ℕ) : Type 0 where
  -- two of the 61 coefficients
  pub left_coefficient : phase_of f + 6 * i ≤ 60
  pub right_coefficient : 6 - phase_of f + 6 * i ≤ 60
  -- to the left no place before the first, and at most t + 9 samples back, or t + 10 with +1/3: no more than the 154 of the past
  pub left_place : i ≤ start_of t f + n
  pub furthest : 154 + n ≤ (start_of t f + n - i) + (t + reach_of f)
  pub oldest : t + reach_of f ≤ 154
  -- to the right only what is there before sample n
  pub right_place : start_of t f + n + 1 + i < 154 + n

pub reads : (t : ℕ) (f : Fraction) (n i : ℕ) → 19 ≤ t → t ≤ 144 → i < 10 → Reads t f n i
reads t f n i h l k =
    let p = phase_top f in
    let r = reach_range f in
    let s = start_reach t f l in
    record {
      left_coefficient = omega arith;
      right_coefficient = omega arith;
      left_place = omega (arith, r.1);
      furthest = omega (arith, r.0);
      oldest = omega (arith, r.1);
      right_place = omega (arith, r.0);
    }

-- the same of the code's numbers
pub start_range : (l : PitchLag) (s : ℕ) → 19 ≤ l.samples → l.samples ≤ 144 → pos s ≡ start (lag_of l) → (9 ≤ s) × (s + 10 < 154)
start_range l s lo hi e =
    let k : s ≡ start_of l.samples l.fraction = cc (start_is l hi) in
    let r = reads l.samples l.fraction 0 9 lo hi (lit< tt) in
    (omega (arith, r.left_place), omega (arith, r.right_place))

-- a lag from 50 on reads past samples alone, and lag 49 a new one
pub past_only : (t : ℕ) (f : Fraction) (n i : ℕ) → 50 ≤ t → t ≤ 144 → n < 40 → i < 10 → start_of t f + n + 1 + i < 154
past_only t f n i h l m k = omega (arith, start_reach t f l, (reach_range f).0)

pub own_at_49 : start_of 49 Zero + 39 + 1 + 9 ≡ 154
own_at_49 = refl
