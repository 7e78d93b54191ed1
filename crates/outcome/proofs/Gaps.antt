-- The search for the first number that is too close to the one before.
use Rattle.std.proofs.Common.{ℕ, zero, suc, min, ◌+◌, ◌<◌, ◌≡◌, refl, ap, Bool, true, false, cond, not, List, [], ◌∷◌, arith, ℤ, pos, ◌+ℤ◌, ◌-ℤ◌, length, ◌≤ℤ◌}
use Rattle.std.specs.Int.Signed.{lt_z}
use Rattle.std.proofs.lemmas.Bool.{not-true}
use Rattle.std.specs.Prelude.{position}
use Rattle.std.specs.List.{zip, position_or_len}
use Rattle.std.proofs.lemmas.Slice.Zip.{length-zip}
use Rattle.lists.specs.Lists.{at}
use borrow.Author.Differences.{sum_is_lem}
use Rattle.basicop.proofs.Ints.{arith_ℤ, sub_ℤ_is}
use Rattle.basicop.proofs.Tests.{less_no, no_less}
use Rattle.outcome.specs.Checks.{apart, found, first_close}
use Rattle.outcome.proofs.Ranges.{one_more}

-- ---- the search over pairs of a number and the one after it
abbrev pub close : ℤ → ℤ × ℤ → Bool
close gap p = not (apart gap p.0 p.1)

close_is : (gap before : ℤ) (xs : List ℤ) → position_or_len (close gap) (zip (before ∷ xs) xs) ≡ first_close gap before xs
unfolding first_close
close_is gap before [] = refl
close_is gap before (x ∷ xs) = go (apart gap before x) (close_is gap x xs)
  where
    go : (b : Bool) {m n : ℕ} → m ≡ n → cond (not (not b)) (1 + m) 0 ≡ cond b (suc n) 0
    go true h = omega (arith, h)
    go false h = refl

pub close_found : (gap : ℤ) (xs : List ℤ) → position (close gap) (zip (pos 0 ∷ xs) xs) ≡ found (first_close gap (pos 0) xs) (length xs)
close_found gap xs =
    let l : min (length (pos 0 ∷ xs)) (length xs) ≡ length xs = omega arith in
    rw (close_is gap (pos 0) xs, length-zip (pos 0 ∷ xs) xs, l)

-- ---- up to what is found, every number lies at least `gap` above the one before it
apart_by : (gap before x : ℤ) → apart gap before x ≡ true → (before +ℤ gap) ≤ℤ x
apart_by gap before x e =
    let h : gap ≤ℤ (x -ℤ before) = less_no (not-true (lt_z (x -ℤ before) gap) e) in
    omega (arith_ℤ, h, sub_ℤ_is x before, sum_is_lem before gap)

pub in_gaps : (gap before : ℤ) (xs : List ℤ) (k : ℕ) → k < first_close gap before xs → (at (before ∷ xs) k +ℤ gap) ≤ℤ at xs k
unfolding first_close
in_gaps gap before [] k h = absurd (omega arith)
in_gaps gap before (x ∷ xs) zero h = apart_by gap before x (one_more (apart gap before x) (first_close gap x xs) 0 h).0
in_gaps gap before (x ∷ xs) (suc k) h = in_gaps gap x xs k (one_more (apart gap before x) (first_close gap x xs) (suc k) h).1

-- ---- where every number lies so far above the one before it, none is found
pub none_close : (gap before : ℤ) (xs : List ℤ) → ((k : ℕ) → k < length xs → (at (before ∷ xs) k +ℤ gap) ≤ℤ at xs k) → first_close gap before xs ≡ length xs
unfolding first_close
none_close gap before [] r = refl
none_close gap before (x ∷ xs) r =
    rw (no_less (x -ℤ before) gap (omega (arith_ℤ, r 0 (omega arith), sub_ℤ_is x before, sum_is_lem before gap)))
    (ap suc (none_close gap x xs (λ k l. r (suc k) (omega (arith, l)))))
