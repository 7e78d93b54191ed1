-- The sums over the taps, before tap k, and the weight of a row.
use Rattle.std.proofs.Common.{ℕ, zero, suc, ◌+◌, ◌*◌, ◌-◌, ◌≤◌, ◌<◌, ◌≡◌, sym, ap, ◌∙◌, false, List, length, zero-add, suc-add, arith, ℤ, pos, nat_abs, ◌-ℤ◌, ◌*ℤ◌, w16, w32, SFits}
use Rattle.std.specs.Int.Signed.{nat_abs-le}
use Rattle.std.specs.List.{sum_by}
use Rattle.std.proofs.lemmas.List.{get_or_default}
use Rattle.lists.proofs.Fold.{fold_counted}
use Rattle.lists.specs.Lists.{at}
use Rattle.basicop.specs.Ops.{l_mult}
use Rattle.basicop.proofs.Fits.{l_mult_fits, l_sub_fits}
use Rattle.basicop.proofs.Ints.{sfits_by}
use Rattle.basicop.proofs.Range.{nat_abs_is, nat_abs_sub}
use Rattle.synthesis.specs.Recursion.{ago, some_outside}
use Rattle.synthesis.specs.Synthesis.{acc}
use Rattle.synthesis.specs.Whole.{product, sum, sums}
use Rattle.synthesis.specs.Inner.{weight, IsSum}
use Rattle.basicop.specs.Inner.{sizes}
use Rattle.basicop.proofs.Unclamped.{sizes_most}
use Rattle.synthesis.proofs.Flags.{inside_fits, fits_inside, leaves_one, leaves_two, two_none}
use Rattle.synthesis.proofs.Agree.{acc_same}
use Rattle.synthesis.proofs.Halves.{double_sub, small_twice}

-- ---- the whole sum
-- where no number up to tap m lies outside none does up to an earlier one
inside_before : (a : List ℤ) (x : ℤ) (y : List ℤ) (k i : ℕ) → some_outside (sums a x y (i + k)) ≡ false → some_outside (sums a x y k) ≡ false
unfolding sums
inside_before a x y k zero e = rw (zero-add k) at e
inside_before a x y k (suc i) e =
    inside_before a x y k i (two_none (sums a x y (i + k)) _ _ (rw (suc-add i k) at e)).0

module _ (a : List ℤ) (x : ℤ) (y : List ℤ) (m : ℕ) (e : some_outside (sums a x y m) ≡ false) where
  up_to : (k : ℕ) → k ≤ m → some_outside (sums a x y k) ≡ false
  up_to k h =
      let i : m - k + k ≡ m = omega arith in
      inside_before a x y k (m - k) (rw i e)

  -- the first product fits, and the product and the sum of each tap
  pub first_fits : SFits w32 (pos 2 *ℤ (at a 0 *ℤ x))
  unfolding sum sums
  first_fits = inside_fits _ (sym (leaves_one (pos 2 *ℤ (at a 0 *ℤ x))) ∙ up_to 0 (omega arith))

  pub tap_fits : (k : ℕ) → k < m → SFits w32 (product a y (suc k)) × SFits w32 (sum a x y k -ℤ product a y (suc k))
  unfolding sum sums
  tap_fits k h =
      let t = two_none (sums a x y k) (product a y (suc k)) (sum a x y (suc k)) (up_to (suc k) h) in
      (inside_fits _ t.1.0, inside_fits _ t.1.1)

-- after k taps
pub is_sum_none : {a : List ℤ} {x : ℤ} {y : List ℤ} {s : ℤ} → s ≡ pos 2 *ℤ (at a 0 *ℤ x) → SFits w32 s → IsSum a x y 0 s
unfolding sum sums
is_sum_none {a} {x} e f = record { inside = leaves_one (pos 2 *ℤ (at a 0 *ℤ x)) ∙ fits_inside _ (rw e at f); is = e }

pub is_sum_more : {a : List ℤ} {x : ℤ} {y : List ℤ} {s s' p : ℤ} {k : ℕ} → IsSum a x y k s → p ≡ product a y (suc k) → SFits w32 p → s' ≡ s -ℤ p → SFits w32 s' → IsSum a x y (suc k) s'
unfolding sum sums
is_sum_more {a} {x} {y} {s} {s'} {p} {k} r ep fp es fs =
    let e : s' ≡ sum a x y k -ℤ product a y (suc k) = es ∙ rw (ep, r.is) in
    record {
      inside =
          leaves_two (sums a x y k) (product a y (suc k)) (sum a x y k -ℤ product a y (suc k)) ∙ rw (r.inside, fits_inside _ (rw ep at fp), fits_inside _ (rw e at fs));
      is = e;
    }

-- ---- of a row whose weight is below 32768 no number up to the sum lies outside
-- the weight, as a sum over the row; of numbers of 16 bits it is small
pub weight_sum : (a : List ℤ) → length a ≡ 11 → sum_by nat_abs a ≡ weight a
unfolding sizes
weight_sum a l =
    rw l at (fold_counted (λ (n : ℕ) (x : ℤ). n + nat_abs x) (sizes (at a)) a (λ k d h. rw (get_or_default a k d (pos 0) h)))

sizes_most_of : (f : ℕ → ℤ) (n : ℕ) → ((k : ℕ) → nat_abs (f k) ≤ 32768) → sizes f n ≤ n * 32768
unfolding sizes
sizes_most_of f zero h = omega arith
sizes_most_of f (suc n) h = omega (arith, sizes_most_of f n h, h n)

pub weight_most : (a : List ℤ) → ((k : ℕ) → SFits w16 (at a k)) → weight a ≤ 360448
weight_most a f = sizes_most_of (at a) 11 (λ k. nat_abs-le (at a k) (f k).sfits)

-- half the sum after k taps
pub record Light (a : List ℤ) (x : ℤ) (y : List ℤ) (half : ℤ) (k : ℕ) : Type 0 where
  pub run : IsSum a x y k (pos 2 *ℤ half)
  pub small : nat_abs half ≤ sizes (at a) (suc k) * 32768

pub light_none : {a : List ℤ} {x : ℤ} {y : List ℤ} {half : ℤ} → weight a < 32768 → half ≡ at a 0 *ℤ x → nat_abs half ≤ nat_abs (at a 0) * 32768 → Light a x y half 0
unfolding sizes
light_none {a} {half = half} l e h =
    let w = sizes_most (at a) 1 11 (omega arith) in
    record { run = is_sum_none (ap (λ (z : ℤ). pos 2 *ℤ z) e) (small_twice half (omega arith)); small = omega arith }

module _ {a : List ℤ} {x : ℤ} {y : List ℤ} {half : ℤ} {k : ℕ} (p : ℤ) (r : Light a x y half k) (l : weight a < 32768) (u : k < 10) (j : nat_abs p ≤ nat_abs (at a (suc k)) * 32768) where
  still_small : (nat_abs p ≤ 1073709056) × ((nat_abs (half -ℤ p) ≤ 1073709056) × (nat_abs (half -ℤ p) ≤ sizes (at a) (suc (suc k)) * 32768))
  unfolding sizes
  still_small =
      let w = sizes_most (at a) (suc (suc k)) 11 (omega arith) in
      let b = nat_abs_sub half p in
      (omega (arith, r.small), (omega (arith, r.small), omega (arith, r.small)))

  pub light_fits : SFits w32 (half -ℤ p)
  light_fits = sfits_by (omega (arith, nat_abs_is (half -ℤ p), still_small.1.0))

  pub light_more : p ≡ at a (suc k) *ℤ ago y (suc k) → Light a x y (half -ℤ p) (suc k)
  light_more ep =
      record {
        run = is_sum_more r.run (rw ep) (small_twice p still_small.0) (double_sub half p) (small_twice (half -ℤ p) still_small.1.0);
        small = still_small.1.1;
      }

-- where none lies outside the sum is the clamped sum
pub is_sum_acc : {a : List ℤ} {x : ℤ} {y : List ℤ} {k : ℕ} {s : ℤ} → IsSum a x y k s → s ≡ acc a x y k
is_sum_acc {a} {x} {y} {k} r = r.is ∙ sym (acc_same a x y k r.inside)

acc_fits : (a : List ℤ) (x : ℤ) (y : List ℤ) (k : ℕ) → SFits w32 (acc a x y k)
unfolding acc
acc_fits a x y zero = l_mult_fits x (at a 0)
acc_fits a x y (suc k) = l_sub_fits (acc a x y k) (l_mult (at a (suc k)) (ago y (suc k)))

-- it fits
pub is_sum_fits : {a : List ℤ} {x : ℤ} {y : List ℤ} {k : ℕ} {s : ℤ} → IsSum a x y k s → SFits w32 s
is_sum_fits {a} {x} {y} {k} r = rw (is_sum_acc r) (acc_fits a x y k)
