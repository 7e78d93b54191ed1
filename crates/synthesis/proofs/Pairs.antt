-- The loops and folds over the taps go over the row from its second coefficient on and the ten samples from the newest back, side by side.
use Rattle.std.proofs.Common.{ℕ, suc, ◌+◌, ◌-◌, ◌<◌, ◌≡◌, refl, ap, ◌∙◌, List, reverse, arith, Bor, ℤ, pos, length, take, drop, length-drop, get_or, length-take-le, get_or-take, Iter}
use mathlib.Core.List.{foldl}
use Rattle.std.specs.Prelude.{Option, Some, None}
use Rattle.std.specs.List.{zip}
use Rattle.std.specs.Iterator.{Yields}
use Rattle.std.specs.Iterator.Adapters.{zip_first, zip_second, rev_source, rev_steps}
use Rattle.std.specs.Slice.Iter.{iter_rest, iter_steps_back}
use Rattle.std.specs.declared.iter.Zip.{Zip}
use Rattle.std.specs.declared.iter.Rev.{Rev}
use Rattle.std.proofs.iter.Yields.{fronts}
use Rattle.std.proofs.lemmas.Iterator.{YieldsList, zips, YieldsList-from_slice, YieldsList-from_zip}
use Rattle.std.proofs.lemmas.Iterator.Adapters.{YieldsList-from_rev_slice}
use Rattle.std.proofs.lemmas.Iterator.Consumers.{YieldsList-turn, YieldsList-end}
use Rattle.std.proofs.lemmas.Slice.Zip.{length-zip, get_or-zip}
use Rattle.std.proofs.lemmas.List.{length-reverse, get_or-reverse, get_or-drop, get_or_default}
use Rattle.lists.specs.Lists.{at}
use Rattle.lists.proofs.Fold.{fold_counted}
use Rattle.basicop.specs.Ops.{l_mult, l_msu}
use Rattle.synthesis.specs.Recursion.{ago}
use Rattle.synthesis.specs.Synthesis.{acc}

-- ---- the taps from 1 on, each beside the sample that it takes: the newest first
abbrev pub pairs : List ℤ → List ℤ → List (ℤ × ℤ)
pairs a y = zip (take 10 (drop 1 a)) (reverse y)

module _ (a y : List ℤ) (la : length a ≡ 11) (ly : length y ≡ 10) where
  taps_length : length (take 10 (drop 1 a)) ≡ 10
  taps_length = length-take-le 10 (drop 1 a) (rw (length-drop 1 a, la) (omega arith))

  pairs_length : length (pairs a y) ≡ 10
  pairs_length = length-zip (take 10 (drop 1 a)) (reverse y) ∙ rw (length-reverse y, ly, taps_length)

  -- tap k + 1
  pairs_at : (k : ℕ) (d : ℤ × ℤ) → k < 10 → get_or (pairs a y) k d ≡ (at a (suc k), ago y (suc k))
  pairs_at k d h =
      let u : k < length (take 10 (drop 1 a)) = omega (arith, taps_length) in
      let v : k < length y = omega (arith, ly) in
      let w : k < length (reverse y) = omega (arith, length-reverse y, ly) in
      let e1 : 1 + k ≡ suc k = omega arith in
      let e : length y - 1 - k ≡ length y - suc k = omega arith in
      let c : get_or (take 10 (drop 1 a)) k d.0 ≡ at a (suc k) = get_or-take 10 (drop 1 a) k d.0 h ∙ get_or-drop 1 a k d.0 ∙ rw e1 (get_or_default a (suc k) d.0 (pos 0) (omega (arith, la))) in
      let z : get_or (reverse y) k d.1 ≡ ago y (suc k) = get_or-reverse y k d.1 v ∙ rw e (get_or_default y (length y - suc k) d.1 (pos 0) (omega (arith, ly))) in
      get_or-zip (take 10 (drop 1 a)) (reverse y) k d u w ∙ rw (c, z)

  -- a fold over them, where t k is what stands after tap k
  fold_taps : {S : Type 0} (f : S → ℤ → ℤ → S) (t : ℕ → S) → ((k : ℕ) → k < 10 → t (suc k) ≡ f (t k) (at a (suc k)) (ago y (suc k))) → foldl (λ (s : S) (p : ℤ × ℤ). f s p.0 p.1) (t 0) (pairs a y) ≡ t 10
  fold_taps f t e =
      rw pairs_length at (fold_counted (λ (s : _) (p : ℤ × ℤ). f s p.0 p.1) t (pairs a y) (λ k d h. let l : k < 10 = omega (arith, pairs_length) in rw (pairs_at k d l) (e k l)))

  -- the clamped sum is one
  pub fold_acc : (x : ℤ) → foldl (λ (s : ℤ) (p : ℤ × ℤ). l_msu s p.0 p.1) (l_mult x (at a 0)) (pairs a y) ≡ acc a x y 10
  unfolding acc
  fold_acc x = fold_taps l_msu (acc a x y) (λ k h. refl)

-- tap k + 1, where k are done
pub record Tap (a y : List ℤ) (k : ℕ) (c v : ℤ) : Type 0 where
  pub more : k < 10
  pub coefficient : c ≡ at a (suc k)
  pub sample : v ≡ ago y (suc k)

abbrev pub Walk : Type 0
Walk = Zip (Iter ℤ) (Rev (Iter ℤ))

module _ (a y : List ℤ) (la : length a ≡ 11) (ly : length y ≡ 10) (s : Walk) (first : iter_rest (zip_first s) ≡ take 10 (drop 1 a)) (second : iter_rest (rev_source (zip_second s)) ≡ y) where
  pub road : YieldsList (zips fronts (rev_steps iter_steps_back)) (λ (p : Bor ℤ × Bor ℤ). (p.0.now, p.1.now)) s (pairs a y)
  road = YieldsList-from_zip (YieldsList-from_slice (take 10 (drop 1 a)) first) (YieldsList-from_rev_slice y second)

  module _ (xs : List (Bor ℤ × Bor ℤ)) (t u : Walk) (run : Yields (zips fronts (rev_steps iter_steps_back)) s xs t) where
    pub tap_turn : {r : Option (Bor ℤ × Bor ℤ)} (p : Bor ℤ × Bor ℤ) → r ≡ Some p → zips fronts (rev_steps iter_steps_back) t r u → Tap a y (length xs) p.0.now p.1.now
    tap_turn {r} p is e =
        let q = YieldsList-turn road xs t run r u p is e in
        let k : length xs < 10 = omega (arith, q.0, pairs_length a y la ly) in
        let g = q.1 ∙ pairs_at a y la ly (length xs) _ k in
        record { more = k; coefficient = ap (λ (z : ℤ × ℤ). z.0) g; sample = ap (λ (z : ℤ × ℤ). z.1) g }

    pub tap_end : {r : Option (Bor ℤ × Bor ℤ)} → r ≡ None → zips fronts (rev_steps iter_steps_back) t r u → length xs ≡ 10
    tap_end {r} is e = (YieldsList-end road xs t run r u is e).1 ∙ pairs_length a y la ly
