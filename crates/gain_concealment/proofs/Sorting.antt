-- `sorted`, of any list: the same numbers, rising, and from any arrangement the same list: `sorted_kept`, `median_of_any`.
use Rattle.std.proofs.Common.{◌≡◌, refl, sym, ap, ap₂, ◌∙◌, Bool, true, false, cond, List, [], ◌∷◌, ℕ, zero, suc, ◌+◌, ◌<◌, add-one, arith, ℤ, length, ◌≤ℤ◌}
use mathlib.Core.List.{Perm, Permᴰ, is_set}
use mathlib.Core.List.Perm
use mathlib.Core.Logic.{∥∥₁_elim}
use lib.IntN.{ℤ_set}
use lib.Signed.{lt_z}
use Rattle.lists.specs.Lists.{at}
use Rattle.basicop.proofs.Ints.{arith_ℤ, ≤ℤ_antisym, <ℤ-≤ℤ}
use Rattle.basicop.proofs.Tests.{less_yes, less_no, yes_less, no_less}
use Rattle.gain_concealment.specs.Median.{inserted, sorted, median}
use Rattle.gain_concealment.specs.Laws.{InOrder}

-- ---- one number put in its place, by the test of the first
module _ (x y : ℤ) (ys : List ℤ) where
  pub inserted_later : lt_z y x ≡ true → inserted x (y ∷ ys) ≡ y ∷ inserted x ys
  unfolding inserted
  inserted_later e = rw e

  pub inserted_here : lt_z y x ≡ false → inserted x (y ∷ ys) ≡ x ∷ y ∷ ys
  unfolding inserted
  inserted_here e = rw e

-- what holds of either holds of the list
pub by_place : (P : List ℤ → Type 0) (x y : ℤ) (ys : List ℤ) → (lt_z y x ≡ true → P (y ∷ inserted x ys)) → (lt_z y x ≡ false → P (x ∷ y ∷ ys)) → P (inserted x (y ∷ ys))
unfolding inserted
by_place P x y ys later here = go (lt_z y x) later here
  where
    go : (t : Bool) → (t ≡ true → P (y ∷ inserted x ys)) → (t ≡ false → P (x ∷ y ∷ ys)) → P (cond t (y ∷ inserted x ys) (x ∷ y ∷ ys))
    go true later here = later refl
    go false later here = here refl

-- ---- the same numbers
perm_inserted : (x : ℤ) (ys : List ℤ) → Perm (x ∷ ys) (inserted x ys)
unfolding inserted
perm_inserted x [] = Perm.refl (x ∷ [])
perm_inserted x (y ∷ ys) =
    by_place (Perm (x ∷ y ∷ ys)) x y ys (λ e. Perm.trans (Perm.swap y x ys) (Perm.cons y (perm_inserted x ys))) (λ e. Perm.refl (x ∷ y ∷ ys))

perm_sorted : (xs : List ℤ) → Perm xs (sorted xs)
unfolding sorted
perm_sorted [] = Perm.refl []
perm_sorted (x ∷ xs) = Perm.trans (Perm.cons x (perm_sorted xs)) (perm_inserted x (sorted xs))

length_inserted : (x : ℤ) (ys : List ℤ) → length (inserted x ys) ≡ suc (length ys)
unfolding inserted
length_inserted x [] = refl
length_inserted x (y ∷ ys) = by_place (λ (zs : List ℤ). length zs ≡ suc (suc (length ys))) x y ys (λ e. ap suc (length_inserted x ys)) (λ e. refl)

pub length_sorted : (xs : List ℤ) → length (sorted xs) ≡ length xs
unfolding sorted
length_sorted [] = refl
length_sorted (x ∷ xs) = length_inserted x (sorted xs) ∙ ap suc (length_sorted xs)

-- ---- each at most the next
abbrev Below : ℤ → List ℤ → Type 0
Below x [] = Unit {0}
Below x (y ∷ ys) = x ≤ℤ y

abbrev pub Rising : List ℤ → Type 0
Rising [] = Unit {0}
Rising (x ∷ xs) = Below x xs × Rising xs

below_inserted : (x y : ℤ) (ys : List ℤ) → y ≤ℤ x → Below y ys → Below y (inserted x ys)
unfolding inserted
below_inserted x y [] h b = h
below_inserted x y (z ∷ zs) h b = by_place (Below y) x z zs (λ e. b) (λ e. h)

rising_inserted : (x : ℤ) (ys : List ℤ) → Rising ys → Rising (inserted x ys)
unfolding inserted
rising_inserted x [] r = (tt, tt)
rising_inserted x (y ∷ ys) r =
    by_place Rising x y ys (λ e. (below_inserted x y ys (<ℤ-≤ℤ (less_yes e)) r.0, rising_inserted x ys r.1)) (λ e. (less_no e, r))

pub rising_sorted : (xs : List ℤ) → Rising (sorted xs)
unfolding sorted
rising_sorted [] = tt
rising_sorted (x ∷ xs) = rising_inserted x (sorted xs) (rising_sorted xs)

rises_suc : (xs : List ℤ) → Rising xs → (k : ℕ) → suc k < length xs → at xs k ≤ℤ at xs (suc k)
rises_suc [] r k h = absurd (omega arith)
rises_suc (x ∷ []) r k h = absurd (omega arith)
rises_suc (x ∷ y ∷ ys) r zero h = r.0
rises_suc (x ∷ y ∷ ys) r (suc k) h = rises_suc (y ∷ ys) r.1 k (omega arith)

rises : (xs : List ℤ) → Rising xs → (k : ℕ) → k + 1 < length xs → at xs k ≤ℤ at xs (k + 1)
rises xs r k h = rw (add-one k) (rises_suc xs r k (omega arith))

-- ---- from any arrangement the same list
-- before all of zs
both_first : (x y : ℤ) (zs : List ℤ) → inserted x zs ≡ x ∷ zs → inserted y zs ≡ y ∷ zs → inserted x (y ∷ zs) ≡ inserted y (x ∷ zs)
both_first x y zs p q = go (lt_z y x) (lt_z x y) refl refl
  where
    go : (s t : Bool) → lt_z y x ≡ s → lt_z x y ≡ t → inserted x (y ∷ zs) ≡ inserted y (x ∷ zs)
    go true t e f = rw (inserted_later x y zs e, p, inserted_here y x zs (no_less x y (<ℤ-≤ℤ (less_yes {a = y} {b = x} e))))
    go false true e f = rw (inserted_here x y zs e, inserted_later y x zs f, q)
    go false false e f = rw (≤ℤ_antisym {a = x} {b = y} (less_no e) (less_no f))

-- one after z, the other before it
one_first : (x y z : ℤ) (zs : List ℤ) → lt_z z x ≡ true → lt_z z y ≡ false → inserted x (inserted y (z ∷ zs)) ≡ inserted y (inserted x (z ∷ zs))
one_first x y z zs e f =
    let before : lt_z y x ≡ true = yes_less y x (omega (arith_ℤ, less_yes {a = z} {b = x} e, less_no {a = z} {b = y} f)) in
    rw (inserted_here y z zs f, inserted_later x z zs e, inserted_here y z (inserted x zs) f, inserted_later x y (z ∷ zs) before, inserted_later x z zs e)

both_alone : (x y : ℤ) → inserted x (inserted y []) ≡ inserted y (inserted x [])
unfolding inserted
both_alone x y = both_first x y [] refl refl

inserted_both : (x y : ℤ) (zs : List ℤ) → inserted x (inserted y zs) ≡ inserted y (inserted x zs)
inserted_both x y [] = both_alone x y
inserted_both x y (z ∷ zs) = go (lt_z z x) (lt_z z y) refl refl (inserted_both x y zs)
  where
    go : (s t : Bool) → lt_z z x ≡ s → lt_z z y ≡ t → inserted x (inserted y zs) ≡ inserted y (inserted x zs) → inserted x (inserted y (z ∷ zs)) ≡ inserted y (inserted x (z ∷ zs))
    go true true e f h =
        rw (inserted_later x z zs e, inserted_later y z zs f, inserted_later x z (inserted y zs) e, inserted_later y z (inserted x zs) f, h)
    go true false e f h = one_first x y z zs e f
    go false true e f h = sym (one_first y x z zs f e)
    go false false e f h = rw (inserted_here x z zs e, inserted_here y z zs f) (both_first x y (z ∷ zs) (inserted_here x z zs e) (inserted_here y z zs f))

sorted_by : {xs ys : List ℤ} → Permᴰ xs ys → sorted xs ≡ sorted ys
unfolding sorted
sorted_by Permᴰ.nil = refl
sorted_by (Permᴰ.cons e d) = ap₂ inserted e (sorted_by d)
sorted_by (Permᴰ.swap {a} {b} {a'} {b'} {l} e f) = ap₂ (λ (x y : ℤ). inserted x (inserted y (sorted l))) e f ∙ inserted_both b' a' (sorted l)
sorted_by (Permᴰ.trans d e) = sorted_by d ∙ sorted_by e

sorted_any : (xs ys : List ℤ) → Perm xs ys → sorted xs ≡ sorted ys
sorted_any xs ys p = ∥∥₁_elim p (is_set ℤ_set (sorted xs) (sorted ys)) sorted_by

-- ---- the theorems
pub sorted_kept : (xs : List ℤ) → InOrder xs
sorted_kept xs = record { same = perm_sorted xs; rises = rises (sorted xs) (rising_sorted xs) }

pub median_of_any : (xs ys : List ℤ) → Perm xs ys → median xs ≡ median ys
median_of_any xs ys p = rw (sorted_any xs ys p)
