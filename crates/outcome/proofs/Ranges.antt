-- The search for the first number outside 0..=its limit.
use Rattle.std.proofs.Common.{ℕ, zero, suc, ◌+◌, ◌≤◌, ◌<◌, min, ◌≡◌, refl, ap, subst, Bool, true, false, cond, not, ◌||◌, List, [], ◌∷◌, ◌++◌, append-nil, arith, ℤ, pos, length, replicate, ◌≤ℤ◌, ltb-false, T, ltb}
use Rattle.std.specs.Int.Signed.{lt_z}
use Rattle.std.proofs.lemmas.Bool.{not-true, or_parts}
use Rattle.std.specs.Prelude.{Option, Some, None, is_some, position}
use Rattle.std.specs.List.{zip, position_or_len}
use Rattle.std.proofs.lemmas.Slice.Zip.{length-zip}
use Rattle.lists.specs.Lists.{at, Every}
use Rattle.basicop.proofs.Ints.{arith_ℤ}
use Rattle.basicop.proofs.Tests.{less_no, no_less}
use Rattle.outcome.specs.Checks.{within, found, first_outside}

-- ---- a number against its limit
pub in_range : (limit x : ℤ) → within limit x ≡ true → (pos 0 ≤ℤ x) × (x ≤ℤ limit)
in_range limit x e =
    let n = or_parts (lt_z x (pos 0)) (lt_z limit x) (not-true (lt_z x (pos 0) || lt_z limit x) e) in
    (less_no n.0, less_no n.1)

-- ---- the search over pairs of a number and its limit
abbrev pub outside : ℤ × ℤ → Bool
outside p = not (within p.1 p.0)

position_is : (xs limits : List ℤ) → length xs ≡ length limits → position_or_len outside (zip xs limits) ≡ first_outside xs limits
unfolding first_outside
position_is [] limits e = refl
position_is (x ∷ xs) [] e = absurd (omega (arith, e))
position_is (x ∷ xs) (l ∷ ls) e = go (within l x) (position_is xs ls (omega (arith, e)))
  where
    go : (b : Bool) {m n : ℕ} → m ≡ n → cond (not (not b)) (1 + m) 0 ≡ cond b (suc n) 0
    go true h = omega (arith, h)
    go false h = refl

pub position_found : (xs limits : List ℤ) → length xs ≡ length limits → position outside (zip xs limits) ≡ found (first_outside xs limits) (length xs)
position_found xs limits e =
    let l : min (length xs) (length limits) ≡ length xs = omega (arith, e) in
    rw (position_is xs limits e, length-zip xs limits, l)

pub none_found : {o : Option ℕ} (place count : ℕ) → o ≡ found place count → is_some o ≡ false → count ≤ place
none_found {o} place count e h = ltb-false place count (go (ltb place count) (rw e at h))
  where
    go : (b : Bool) → is_some (cond b (Some place) None) ≡ false → b ≡ false
    go true k = absurd (subst T k tt)
    go false k = refl

-- ---- where none is found, every number lies in its range, and where every number does, none is found
pub one_more : (b : Bool) (n k : ℕ) → suc k ≤ cond b (suc n) 0 → (b ≡ true) × (k ≤ n)
one_more true n k h = (refl, omega arith)
one_more false n k h = absurd (omega arith)

pub in_ranges : (xs limits : List ℤ) (k : ℕ) → k < first_outside xs limits → (pos 0 ≤ℤ at xs k) × (at xs k ≤ℤ at limits k)
unfolding first_outside
in_ranges [] limits k h = absurd (omega arith)
in_ranges (x ∷ xs) [] k h = absurd (omega arith)
in_ranges (x ∷ xs) (l ∷ ls) zero h = in_range l x (one_more (within l x) (first_outside xs ls) 0 h).0
in_ranges (x ∷ xs) (l ∷ ls) (suc k) h = in_ranges xs ls k (one_more (within l x) (first_outside xs ls) (suc k) h).1

pub from_zero : (xs limits : List ℤ) → length xs ≤ first_outside xs limits → Every (λ (x : ℤ). pos 0 ≤ℤ x) xs
unfolding first_outside
from_zero [] limits h = tt
from_zero (x ∷ xs) [] h = absurd (omega arith)
from_zero (x ∷ xs) (l ∷ ls) h =
    let r = one_more (within l x) (first_outside xs ls) (length xs) h in
    ((in_range l x r.0).0, from_zero xs ls r.1)

-- numbers from 0 on that are their own limits, and others after them
pub own_limits : (xs ys limits : List ℤ) → Every (λ (x : ℤ). pos 0 ≤ℤ x) xs → first_outside (xs ++ ys) (xs ++ limits) ≡ length xs + first_outside ys limits
unfolding first_outside
own_limits [] ys limits h = omega arith
own_limits (x ∷ xs) ys limits h = rw (no_less x (pos 0) h.0, no_less x x (omega arith_ℤ)) (let e = own_limits xs ys limits h.1 in omega (arith, e))

pub never_outside : (xs : List ℤ) → Every (λ (x : ℤ). pos 0 ≤ℤ x) xs → first_outside xs xs ≡ length xs
unfolding first_outside
never_outside xs h = let e = rw (append-nil xs) at (own_limits xs [] [] h) in omega (arith, e)

-- the same where all have one limit
pub in_range_all : (n : ℕ) (limit : ℤ) (xs : List ℤ) → length xs ≡ n → n ≤ first_outside xs (replicate n limit) → Every (λ (x : ℤ). (pos 0 ≤ℤ x) × (x ≤ℤ limit)) xs
unfolding first_outside
in_range_all n limit [] e h = tt
in_range_all zero limit (x ∷ xs) e h = absurd (omega (arith, e))
in_range_all (suc n) limit (x ∷ xs) e h =
    let r = one_more (within limit x) (first_outside xs (replicate n limit)) n h in
    (in_range limit x r.0, in_range_all n limit xs (omega (arith, e)) r.1)

-- ---- where every number lies in its range, none is found
pub none_outside : (xs limits : List ℤ) → length xs ≡ length limits → ((k : ℕ) → k < length xs → (pos 0 ≤ℤ at xs k) × (at xs k ≤ℤ at limits k)) → first_outside xs limits ≡ length xs
unfolding first_outside
none_outside [] limits e r = refl
none_outside (x ∷ xs) [] e r = absurd (omega (arith, e))
none_outside (x ∷ xs) (limit ∷ limits) e r =
    let h = r 0 (omega arith) in
    rw (no_less x (pos 0) h.0, no_less limit x h.1) (ap suc (none_outside xs limits (omega (arith, e)) (λ k l. r (suc k) (omega (arith, l)))))
