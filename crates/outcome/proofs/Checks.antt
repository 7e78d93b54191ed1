-- Checks that are tested in order: one by one, and group after group.
use Rattle.std.proofs.Common.{◌≡◌, refl, sym, ◌∙◌, subst, Bool, true, false, cond, List, [], ◌∷◌, ◌++◌, ℕ, ◌<◌, arith, T, eqb, ltb, eqb-true, ltb-true}
use Rattle.std.specs.Prelude.{Some, None, Ok, Err}
use Rattle.std.specs.Result.{IsErrAnd}
use Rattle.std.proofs.lemmas.Result.{err_from_is_err_and}
use Rattle.lists.specs.Lists.{Every}
use Rattle.lists.proofs.Entries.{every_append}
use Rattle.outcome.specs.declared.Refusal.{Refusal}
use Rattle.outcome.specs.Outcome.{Outcome, refusal_place, place_of, is_accepted}
use Rattle.outcome.specs.Checks.{Check, check, place_check, first_met, found}
use Rattle.outcome.proofs.Variants.{never_accepted}

-- ---- a check
module _ (m : Bool) (r : Refusal) (cs : List Check) where
  pub met : m ≡ true → Err r ≡ first_met (check m r ∷ cs)
  unfolding first_met
  met e = rw e

  pub unmet : m ≡ false → first_met cs ≡ first_met (check m r ∷ cs)
  unfolding first_met
  unmet e = rw e

pub none_left : Ok tt ≡ first_met []
unfolding first_met
none_left = refl

-- the check by a search, of what was found among n numbers
module _ (refusal : ℕ → Refusal) (place count : ℕ) (cs : List Check) {n : ℕ} (l : n ≡ count) where
  pub place_met : {k : ℕ} → Some k ≡ found place n → Err (refusal k) ≡ first_met (place_check refusal place count ∷ cs)
  unfolding first_met
  place_met {k} e = rw (← l) (go (ltb place n) e)
    where
      go : (b : Bool) → Some k ≡ cond b (Some place) None → Err (refusal k) ≡ cond b (Err (refusal place)) (first_met cs)
      go true e = cc
      go false e = cc

  pub place_unmet : None ≡ found place n → first_met cs ≡ first_met (place_check refusal place count ∷ cs)
  unfolding first_met
  place_unmet e = rw (← l) (go (ltb place n) e)
    where
      go : (b : Bool) → None ≡ cond b (Some place) None → first_met cs ≡ cond b (Err (refusal place)) (first_met cs)
      go true e = cc
      go false e = refl

-- ---- groups of checks, one after another
-- a group that refuses decides, and one that accepts leaves it to those after it
pub first_append : (xs ys : List Check) → first_met (xs ++ ys) ≡ cond (is_accepted (first_met xs)) (first_met ys) (first_met xs)
unfolding first_met
first_append [] ys = refl
first_append (c ∷ cs) ys = go c.met c.refusal (first_met (cs ++ ys)) (first_met cs) (first_met ys) (first_append cs ys)
  where
    go : (m : Bool) (r : Refusal) (z x y : Outcome) → z ≡ cond (is_accepted x) y x → cond m (Err r) z ≡ cond (is_accepted (cond m (Err r) x)) y (cond m (Err r) x)
    go true r z x y e = rw (never_accepted r)
    go false r z x y e = e

pub passed : (xs ys : List Check) → is_accepted (first_met xs) ≡ true → first_met ys ≡ first_met (xs ++ ys)
passed xs ys h = rw (first_append xs ys, h)

-- what a group comes to, as `?` leaves it: accepted, or a refusal r that is given as it is
pub accepts_here : (xs : List Check) → Ok tt ≡ first_met xs → is_accepted (first_met xs) ≡ true
accepts_here xs a = rw (← a)

module _ (xs ys : List Check) where
  pub accepted_here : Ok tt ≡ first_met xs → first_met ys ≡ first_met (xs ++ ys)
  accepted_here a = passed xs ys (accepts_here xs a)

  pub refused_first : {r : Refusal} → Err r ≡ first_met xs → Err r ≡ first_met (xs ++ ys)
  refused_first {r} a = rw (first_append xs ys, ← a, never_accepted r)

  pub refused_here : {o : Outcome} {r : Refusal} → Err r ≡ first_met xs → IsErrAnd o (λ y. y ≡ r) → o ≡ first_met (xs ++ ys)
  refused_here {o} a h = let p = err_from_is_err_and o h in rw (p.1, p.2) (refused_first a)

-- ---- what acceptance says
either : (a : Bool) (x y : Outcome) → is_accepted x ≡ a → is_accepted (cond a y x) ≡ true → (is_accepted x ≡ true) × (is_accepted y ≡ true)
either true x y e h = (e, h)
either false x y e h = (h, absurd (subst T (sym h ∙ e) tt))

-- each group accepts
pub both_accept : (xs ys : List Check) → is_accepted (first_met (xs ++ ys)) ≡ true → (is_accepted (first_met xs) ≡ true) × (is_accepted (first_met ys) ≡ true)
both_accept xs ys h = either (is_accepted (first_met xs)) (first_met xs) (first_met ys) refl (rw (first_append xs ys) at h)

-- no check is met
pub none_met : (cs : List Check) → is_accepted (first_met cs) ≡ true → Every (λ (c : Check). c.met ≡ false) cs
unfolding first_met
none_met [] h = tt
none_met (c ∷ cs) h =
    let u = go c.met c.refusal (first_met cs) h in
    (u.0, none_met cs u.1)
  where
    go : (m : Bool) (r : Refusal) (x : Outcome) → is_accepted (cond m (Err r) x) ≡ true → (m ≡ false) × (is_accepted x ≡ true)
    go true r x h = absurd (subst T (sym h ∙ never_accepted r) tt)
    go false r x h = (refl, h)

-- ---- places
abbrev pub Placed : List Check → Type 0
Placed cs = Every (λ (c : Check). c.met ≡ true → refusal_place c.refusal < 256) cs

pub placed_append : (xs ys : List Check) → Placed xs → Placed ys → Placed (xs ++ ys)
placed_append xs ys = every_append _ xs ys

-- no refusal has a place: computed
abbrev pub unplaced : List Check → Bool
unplaced [] = true
unplaced (c ∷ cs) = cond (eqb (refusal_place c.refusal) 0) (unplaced cs) false

pub none_placed : (cs : List Check) → T (unplaced cs) → Placed cs
none_placed [] h = tt
none_placed (c ∷ cs) h = go (eqb (refusal_place c.refusal) 0) refl h (none_placed cs)
  where
    go : (b : Bool) → eqb (refusal_place c.refusal) 0 ≡ b → T (cond b (unplaced cs) false) → (T (unplaced cs) → Placed cs) → Placed (c ∷ cs)
    go true e k rest = (λ m. omega (arith, eqb-true (refusal_place c.refusal) 0 e), rest k)
    go false e k rest = absurd k

-- by a search
pub found_placed : (refusal : ℕ → Refusal) (place count : ℕ) → ((k : ℕ) → k < count → refusal_place (refusal k) < 256) → (place_check refusal place count).met ≡ true → refusal_place (refusal place) < 256
found_placed refusal place count f e = f place (ltb-true place count e)

one_place : (m : Bool) (r : Refusal) (x : Outcome) → (m ≡ true → refusal_place r < 256) → place_of x < 256 → place_of (cond m (Err r) x) < 256
one_place true r x f h = f refl
one_place false r x f h = h

pub place_low : (cs : List Check) → Placed cs → place_of (first_met cs) < 256
unfolding first_met
place_low [] p = omega arith
place_low (c ∷ cs) p = one_place c.met c.refusal (first_met cs) p.0 (place_low cs p.1)
