-- The taps of a phase, in the order of the samples.
use Rattle.std.proofs.Common.{◌≡◌, refl, Bool, List, [], ℕ, ◌+◌, ◌-◌, ◌*◌, ◌/◌, ◌<◌, ◌≤◌, lt-ltb, le-ltb, T, lit<, ℤ, pos, ◌-ℤ◌, get_or}
use Rattle.lists.specs.Lists.{at, eq_z, tab}
use Rattle.lists.proofs.Table.{all_below, below_each, eq_z→eq}
use Rattle.basicop.specs.Inner.{sizes}
use Rattle.basicop.proofs.Naturals.{minus}
use Rattle.pitch.specs.Lag.{lag_of}
use Rattle.pitch.specs.declared.Fraction.{Fraction}
use Rattle.pitch.specs.declared.Fraction.TheVariants.{MinusThird, Zero, PlusThird}
use Rattle.pitch.specs.declared.PitchLag.{PitchLag}
use Rattle.adaptive.specs.Predict.{inter6, phase, coefficient}
use Rattle.adaptive.specs.Inner.{tap, phase_taps, all_taps, left_of, right_of, Light}
use Rattle.adaptive.proofs.Places.{phase_of, phase_is}

pub tap_left : (f j : ℕ) → j < 10 → at inter6 (f + 6 * (9 - j)) ≡ tap f j
tap_left f j l = rw (lt-ltb j 10 l)

pub tap_right : (f j : ℕ) → f ≤ 6 → 10 ≤ j → at inter6 (6 - f + 6 * (j - 10)) ≡ tap f j
tap_right f j h l = rw (le-ltb j 10 l, minus 6 f h)

-- ---- the taps of phase f: its coefficients, and the sum of their sizes
pub record Row (taps : List ℤ) (f : ℤ) : Type 0 where
  pub left : (i : ℕ) → i < 10 → left_of taps i ≡ coefficient f i
  pub right : (i : ℕ) → i < 10 → right_of taps i ≡ coefficient (pos 6 -ℤ f) i
  pub light : Light taps

-- by tests that antt computes
left_same : ℕ → ℕ → Bool
left_same f i = eq_z (left_of (phase_taps f) i) (coefficient (pos f) i)

right_same : ℕ → ℕ → Bool
right_same f i = eq_z (right_of (phase_taps f) i) (coefficient (pos 6 -ℤ pos f) i)

row_by : (f : ℕ) → T (all_below (left_same f) 10) → T (all_below (right_same f) 10) → Light (phase_taps f) → Row (phase_taps f) (pos f)
unfolding left_same right_same
row_by f l r h =
    record {
      left = λ i k. eq_z→eq _ _ (below_each (left_same f) 10 l i k);
      right = λ i k. eq_z→eq _ _ (below_each (right_same f) 10 r i k);
      light = h;
    }

row_of : (q : Fraction) → Row (phase_taps (phase_of q)) (pos (phase_of q))
unfolding left_same right_same tab inter6 sizes
row_of MinusThird = row_by 2 tt tt (lit< tt)
row_of Zero = row_by 0 tt tt (lit< tt)
row_of PlusThird = row_by 4 tt tt (lit< tt)

-- the twenty of a phase, where they stand among all
row_at : (q : Fraction) → get_or all_taps (phase_of q / 2) [] ≡ phase_taps (phase_of q)
unfolding all_taps
row_at MinusThird = refl
row_at Zero = refl
row_at PlusThird = refl

pub lag_row : (l : PitchLag) (f : ℕ) (all : List (List ℤ)) → pos f ≡ phase (lag_of l) → all ≡ all_taps → Row (get_or all (f / 2) []) (phase (lag_of l))
lag_row l f all e t =
    let k : f ≡ phase_of l.fraction = cc (phase_is l) in
    rw (t, k, row_at l.fraction, phase_is l) (row_of l.fraction)
