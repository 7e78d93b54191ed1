-- The recursion that is fed its own samples: its length, how it goes on, and two of them beside each other.
use Rattle.std.proofs.Common.{ℕ, zero, suc, ◌+◌, ◌<◌, ◌≤◌, ◌≡◌, refl, sym, ap, ◌∙◌, Bool, true, false, cond, List, [], ◌∷◌, ◌++◌, add-zero, arith, ℤ, pos, length, take, drop, length-append, take-take, take-suc}
use Rattle.std.proofs.Math.Seq.{take-length, take-append_seam, drop-append-le}
use Rattle.lists.specs.Lists.{at}
use Rattle.lists.proofs.Entries.{each_append}
use Rattle.synthesis.specs.Recursion.{recursion, step_numbers, some_outside, some_list_outside, first_list_outside}
use Rattle.std.proofs.lemmas.Bool.{or_parts}
use Rattle.synthesis.proofs.Flags.{or_same}

module _ (make : ℤ → List ℤ → ℤ) where
  pub length_fed : (xs y : List ℤ) → length (recursion make xs y) ≡ length y + length xs
  unfolding recursion
  length_fed [] y = sym (add-zero (length y))
  length_fed (x ∷ xs) y = length_fed xs (y ++ (make x y ∷ [])) ∙ rw (length-append y (make x y ∷ [])) (omega arith)

  -- the history stands in front
  pub fed_starts : (xs y : List ℤ) → take (length y) (recursion make xs y) ≡ y
  unfolding recursion
  fed_starts [] y = take-length y
  fed_starts (x ∷ xs) y =
      let z = y ++ (make x y ∷ []) in
      let l : length y ≤ length z = rw (length-append y (make x y ∷ [])) (omega arith) in
      sym (take-take (length y) (length z) (recursion make xs z) l) ∙ rw (fed_starts xs z) (take-append_seam y (make x y ∷ []))

  pub fed_append : (us vs y : List ℤ) → recursion make (us ++ vs) y ≡ recursion make vs (recursion make us y)
  unfolding recursion
  fed_append [] vs y = refl
  fed_append (u ∷ us) vs y = fed_append us vs (y ++ (make u y ∷ []))

  -- one sample more
  pub fed_more : (xs y : List ℤ) (n : ℕ) → n < length xs → recursion make (take (suc n) xs) y ≡ recursion make (take n xs) y ++ (make (at xs n) (recursion make (take n xs) y) ∷ [])
  unfolding recursion
  fed_more xs y n h = rw (take-suc xs n (pos 0) h) (fed_append (take n xs) (at xs n ∷ []) y)

  -- what holds of 0 and of all that `make` makes holds of every sample after the first n, where it holds of the history's from there on
  module _ (P : ℤ → Type 0) (none : P (pos 0)) (each : (x : ℤ) (y : List ℤ) → P (make x y)) (n : ℕ) where
    one : (v : ℤ) → P v → (i : ℕ) → P (at (v ∷ []) i)
    one v p zero = p
    one v p (suc i) = none

    pub fed_each : (xs y : List ℤ) → n ≤ length y → ((i : ℕ) → P (at (drop n y) i)) → (i : ℕ) → P (at (drop n (recursion make xs y)) i)
    unfolding recursion
    fed_each [] y l p = p
    fed_each (x ∷ xs) y l p =
        let v = make x y in
        fed_each xs (y ++ (v ∷ [])) (rw (length-append y (v ∷ [])) (omega arith)) (rw (drop-append-le n y (v ∷ []) l) (each_append P none (drop n y) (v ∷ []) p (one v (each x y))))

  module _ (nums : ℤ → List ℤ → List ℤ) where
    pub length_numbers : (xs y : List ℤ) → length (step_numbers make nums xs y) ≡ length xs
    unfolding step_numbers
    length_numbers [] y = refl
    length_numbers (x ∷ xs) y = ap suc (length_numbers xs (y ++ (make x y ∷ [])))

    pub numbers_append : (us vs y : List ℤ) → step_numbers make nums (us ++ vs) y ≡ step_numbers make nums us y ++ step_numbers make nums vs (recursion make us y)
    unfolding step_numbers recursion
    numbers_append [] vs y = refl
    numbers_append (u ∷ us) vs y = ap (λ (r : List (List ℤ)). nums u y ∷ r) (numbers_append us vs (y ++ (make u y ∷ [])))

-- ---- two recursions whose flags agree as long as none is up, and whose samples agree where the flag is down
at_case : (b b' : Bool) (i i' : ℕ) → b' ≡ b → (b ≡ false → i' ≡ i) → cond b' 0 (suc i') ≡ cond b 0 (suc i)
at_case true b' i i' e f = rw e
at_case false b' i i' e f = rw e (ap suc (f refl))

until_case : (b : Bool) (k n : ℕ) (u v : List ℤ) → take k u ≡ take k v → (b ≡ false → take (k + 1 + n) u ≡ take (k + 1 + n) v) → take (k + cond b 0 (suc n)) u ≡ take (k + cond b 0 (suc n)) v
until_case true k n u v e f = rw (add-zero k) e
until_case false k n u v e f =
    let i : k + suc n ≡ k + 1 + n = omega arith in
    rw i (f refl)

module _ (make make' : ℤ → List ℤ → ℤ) (nums nums' : ℤ → List ℤ → List ℤ) (flag : (x : ℤ) (y : List ℤ) → some_outside (nums' x y) ≡ some_outside (nums x y)) (value : (x : ℤ) (y : List ℤ) → some_outside (nums x y) ≡ false → make' x y ≡ make x y) where
  pub at_same : (xs y : List ℤ) → first_list_outside (step_numbers make' nums' xs y) ≡ first_list_outside (step_numbers make nums xs y)
  unfolding step_numbers first_list_outside
  at_same [] y = refl
  at_same (x ∷ xs) y = at_case (some_outside (nums x y)) (some_outside (nums' x y)) _ _ (flag x y) (λ e. rw (value x y e) (at_same xs (y ++ (make x y ∷ []))))

  pub any_same : (xs y : List ℤ) → some_list_outside (step_numbers make' nums' xs y) ≡ some_list_outside (step_numbers make nums xs y)
  unfolding step_numbers some_list_outside
  any_same [] y = refl
  any_same (x ∷ xs) y = or_same (some_outside (nums' x y)) (some_outside (nums x y)) _ _ (flag x y) (λ e. rw (value x y e) (any_same xs (y ++ (make x y ∷ []))))

  pub fed_same : (xs y : List ℤ) → some_list_outside (step_numbers make nums xs y) ≡ false → recursion make' xs y ≡ recursion make xs y
  unfolding step_numbers some_list_outside recursion
  fed_same [] y e = refl
  fed_same (x ∷ xs) y e =
      rw (value x y (or_parts (some_outside (nums x y)) _ e).0) (fed_same xs (y ++ (make x y ∷ [])) (or_parts (some_outside (nums x y)) _ e).1)

  -- up to the first flag
  pub until_same : (xs y : List ℤ) → take (length y + first_list_outside (step_numbers make nums xs y)) (recursion make' xs y) ≡ take (length y + first_list_outside (step_numbers make nums xs y)) (recursion make xs y)
  unfolding step_numbers first_list_outside recursion
  until_same [] y = refl
  until_same (x ∷ xs) y =
      until_case (some_outside (nums x y)) (length y) _ _ _ (fed_starts make' (x ∷ xs) y ∙ sym (fed_starts make (x ∷ xs) y))
      (λ e. rw (value x y e) (rw (length-append y (make x y ∷ [])) at (until_same xs (y ++ (make x y ∷ [])))))
