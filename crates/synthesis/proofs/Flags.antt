-- Numbers outside 32 bits: what a clamp does to them, and whether and where a list has one.
use Prim.Native.Nat.compare
use Rattle.std.proofs.Common.{suc, ◌+◌, ◌≤◌, ◌≡◌, refl, sym, ◌∙◌, subst, Bool, true, false, ◌||◌, cond, List, [], ◌∷◌, ◌++◌, arith, zero-add, suc-add, lt-ltb, le-ltb, ltb, ℤ, pos, negsuc, length, w32, SFits}
use Rattle.std.proofs.Math.Bool.{or_assoc, or-false}
use Rattle.std.specs.Int.Signed.{lt_z}
use Rattle.basicop.specs.Ops.{clamp, least, most}
use Rattle.basicop.proofs.Clamp.{clamp_mid, clamp_fits}
use Rattle.std.proofs.lemmas.Bool.{or_parts}
use Rattle.synthesis.specs.Recursion.{outside, some_outside, some_list_outside, first_list_outside}

-- ---- two flags
-- the second matters only where the first is down
pub or_same : (b b' c c' : Bool) → b ≡ b' → (b' ≡ false → c ≡ c') → (b || c) ≡ (b' || c')
or_same b true c c' e f = rw e
or_same b false c c' e f = rw e (f refl)

pub true_by : (b : Bool) → (b ≡ false → ⊥) → b ≡ true
true_by true h = refl
true_by false h = absurd (h refl)

-- ---- a clamp changes what lies outside, and nothing else
pub inside_clamp : (z : ℤ) → outside z ≡ false → clamp w32 z ≡ z
unfolding outside
inside_clamp z e =
    let l = lt_z z (least w32) in
    let h = lt_z (most w32) z in
    clamp_mid w32 z (or_parts l h e).0 (or_parts l h e).1

pub inside_fits : (z : ℤ) → outside z ≡ false → SFits w32 z
inside_fits z e = subst (SFits w32) (inside_clamp z e) (clamp_fits w32 z)

pub fits_inside : (z : ℤ) → SFits w32 z → outside z ≡ false
unfolding outside
fits_inside (pos n) h = le-ltb 2147483647 n (omega (arith, h.sfits))
fits_inside (negsuc n) h = rw (le-ltb 2147483647 n (omega (arith, h.sfits)))

pub clamp_inside : (z : ℤ) → clamp w32 z ≡ z → outside z ≡ false
clamp_inside z e = fits_inside z (subst (SFits w32) e (clamp_fits w32 z))

-- ---- one list
pub leaves_append : (us vs : List ℤ) → some_outside (us ++ vs) ≡ (some_outside us || some_outside vs)
unfolding some_outside
leaves_append [] vs = refl
leaves_append (u ∷ us) vs = rw (leaves_append us vs) (sym (or_assoc (outside u) (some_outside us) (some_outside vs)))

pub leaves_one : (u : ℤ) → some_outside (u ∷ []) ≡ outside u
unfolding some_outside
leaves_one u = or-false (outside u)

-- two numbers more
module _ (us : List ℤ) (u v : ℤ) where
  pub leaves_two : some_outside (us ++ (u ∷ v ∷ [])) ≡ (some_outside us || (outside u || outside v))
  unfolding some_outside
  leaves_two = rw (leaves_append us (u ∷ v ∷ []), or-false (outside v))

  pub two_none : some_outside (us ++ (u ∷ v ∷ [])) ≡ false → (some_outside us ≡ false) × ((outside u ≡ false) × (outside v ≡ false))
  two_none e =
      let f : (some_outside us || (outside u || outside v)) ≡ false = sym leaves_two ∙ e in
      let g = or_parts (some_outside us) (outside u || outside v) f in
      (g.0, or_parts (outside u) (outside v) g.1)

-- ---- a list of lists
pub any_append : (us vs : List (List ℤ)) → some_list_outside (us ++ vs) ≡ (some_list_outside us || some_list_outside vs)
unfolding some_list_outside
any_append [] vs = refl
any_append (u ∷ us) vs = rw (any_append us vs) (sym (or_assoc (some_outside u) (some_list_outside us) (some_list_outside vs)))

-- the place in lists of which the first ones have none
pub at_append : (us vs : List (List ℤ)) → some_list_outside us ≡ false → first_list_outside (us ++ vs) ≡ length us + first_list_outside vs
unfolding some_list_outside first_list_outside
at_append [] vs e = sym (zero-add (first_list_outside vs))
at_append (u ∷ us) vs e = rw ((or_parts (some_outside u) (some_list_outside us) e).0, at_append us vs (or_parts (some_outside u) (some_list_outside us) e).1) (sym (suc-add (length us) (first_list_outside vs)))

pub at_none : (us : List (List ℤ)) → some_list_outside us ≡ false → first_list_outside us ≡ length us
unfolding some_list_outside first_list_outside
at_none [] e = refl
at_none (u ∷ us) e = rw ((or_parts (some_outside u) (some_list_outside us) e).0, at_none us (or_parts (some_outside u) (some_list_outside us) e).1)

pub at_here : (u : List ℤ) (us : List (List ℤ)) → some_outside u ≡ true → first_list_outside (u ∷ us) ≡ 0
unfolding first_list_outside
at_here u us e = rw e

-- it is at most the count
pub at_most : (us : List (List ℤ)) → first_list_outside us ≤ length us
unfolding first_list_outside
at_most [] = omega arith
at_most (u ∷ us) = go (some_outside u) (at_most us)
  where
    go : (b : Bool) → first_list_outside us ≤ length us → cond b 0 (suc (first_list_outside us)) ≤ suc (length us)
    go true h = omega arith
    go false h = omega arith

-- and less where some list has one
pub any_by_at : (us : List (List ℤ)) → some_list_outside us ≡ ltb (first_list_outside us) (length us)
unfolding some_list_outside first_list_outside
any_by_at [] = refl
any_by_at (u ∷ us) = go (some_outside u) (any_by_at us)
  where
    go : (b : Bool) → some_list_outside us ≡ ltb (first_list_outside us) (length us) → (b || some_list_outside us) ≡ ltb (cond b 0 (suc (first_list_outside us))) (suc (length us))
    go true e = sym (lt-ltb 0 (suc (length us)) (omega arith))
    go false e = rw (compare.suc-suc (suc (first_list_outside us)) (length us)) e
