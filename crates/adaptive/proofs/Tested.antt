-- Numbers that are not large, and the test of a list that grows.
use Rattle.std.proofs.Common.{◌≡◌, refl, sym, ap, ◌∙◌, Bool, true, false, not, ◌&&◌, List, [], ◌∷◌, ℕ, zero, suc, ◌-◌, ◌<◌, ◌≤◌, arith, ℤ, pos, negsuc, nat_abs, length, set, take, take-suc-set, get_or-take, ◌≤ℤ◌}
use mathlib.Core.List.{foldl, foldl-append}
use Rattle.std.proofs.lemmas.Bool.{not-true, and_parts, or_parts}
use Rattle.std.specs.Int.Signed.{lt_z}
use Rattle.lists.specs.Lists.{minus, at}
use Rattle.basicop.proofs.Ints.{arith_ℤ}
use Rattle.basicop.proofs.Tests.{less_no}
use Rattle.adaptive.specs.Inner.{limit, large, quiet, Quiet}

pub large_no : (x : ℤ) → large x ≡ false → nat_abs x ≤ limit
unfolding large
large_no x e =
    let low = lt_z x (minus limit) in
    let high = lt_z (pos (limit - 1)) x in
    let n = or_parts low high e in
    go x (less_no n.0) (less_no n.1)
  where
    go : (z : ℤ) → minus limit ≤ℤ z → z ≤ℤ pos (limit - 1) → nat_abs z ≤ limit
    go (pos n) l h = omega arith_ℤ
    go (negsuc n) l h = omega arith_ℤ

-- none of a list is, also past its end
none_large : (b : Bool) (xs : List ℤ) → foldl (λ (b : Bool) (x : ℤ). b && not (large x)) b xs ≡ true → (b ≡ true) × ((i : ℕ) → large (at xs i) ≡ false)
unfolding large
none_large b [] e = (e, λ i. refl)
none_large b (x ∷ xs) e =
    let r = none_large (b && not (large x)) xs e in
    let p = and_parts b (not (large x)) r.0 in
    (p.0, each (not-true (large x) p.1) r.1)
  where
    each : large x ≡ false → ((i : ℕ) → large (at xs i) ≡ false) → (i : ℕ) → large (at (x ∷ xs) i) ≡ false
    each e f zero = e
    each e f (suc i) = f i

-- b is the test of the first m numbers
pub record Tested (xs : List ℤ) (m : ℕ) (b : Bool) : Type 0 where
  pub is : b ≡ quiet (take m xs)

-- where it is passed the first n of them are not large
pub tested_yes : {xs : List ℤ} {m : ℕ} {b : Bool} → Tested xs m b → (n : ℕ) → n ≤ m → b ≡ true → Quiet n xs
unfolding quiet
tested_yes {xs} {m} r n h f i l = ap large (sym (get_or-take m xs i (pos 0) (omega arith))) ∙ (none_large true (take m xs) (sym r.is ∙ f)).1 i

-- one number more, with its test t
pub tested_more : {xs : List ℤ} {m : ℕ} {b t : Bool} {n : ℕ} (y : ℤ) → Tested xs m b → m < length xs → t ≡ large y → n ≡ suc m → Tested (set xs m y) n (b && not t)
unfolding quiet
tested_more {xs} {m} y r h e k = rw (e, k) (record { is = rw (r.is, take-suc-set xs m y h, foldl-append) })
