-- Entries of lists that are made from others.
use Rattle.std.proofs.Common.{ℕ, zero, suc, ◌+◌, ◌-◌, ◌≤◌, ◌<◌, ◌≡◌, refl, sym, ap, ◌∙◌, List, [], ◌∷◌, ◌++◌, map, ⊎_elim, add-one, add_comm, not-suc-le-zero, le_of_suc-le-suc, eq-or-lt_of_le, arith, length, take, drop, get_or, length-append, length-drop, get_or-drop, get_or-take, get_or-append-add, length-take-le, take_all, ℤ, pos}
use Rattle.std.proofs.Math.ListN.{get_or-append}
use Rattle.std.proofs.Math.Seq.{get_or_at}
use Rattle.lists.specs.Lists.{at, tab, pairwise, Every}

pub at_drop : (xs : List ℤ) (k i : ℕ) → at xs (i + k) ≡ at (drop k xs) i
at_drop xs k i = rw (get_or-drop, add_comm k i)

pub at_map : (f : ℤ → ℤ) (xs : List ℤ) (i : ℕ) → i < length xs → f (at xs i) ≡ at (map f xs) i
at_map f [] i h = absurd (not-suc-le-zero h)
at_map f (x ∷ xs) zero h = refl
at_map f (x ∷ xs) (suc i) h = at_map f xs i (le_of_suc-le-suc h)

pub at_left : (xs ys : List ℤ) (i : ℕ) → i < length xs → at xs i ≡ at (xs ++ ys) i
at_left xs ys i h = sym (get_or-append xs ys (pos 0) i h)

pub at_right : (xs ys : List ℤ) (n i : ℕ) → length xs ≡ n → n ≤ i → at ys (i - n) ≡ at (xs ++ ys) i
at_right xs ys n i e h =
    let k : i ≡ length xs + (i - n) = omega (arith, e) in
    sym (ap (at (xs ++ ys)) k ∙ get_or-append-add xs ys (i - n) (pos 0))

-- ---- a list that is given by its entries
pub length_tab : (f : ℕ → ℤ) (n : ℕ) → length (tab f n) ≡ n
unfolding tab
length_tab f zero = refl
length_tab f (suc n) = length-append (tab f n) (f n ∷ []) ∙ rw (length_tab f n) (add-one n)

pub at_tab : (f : ℕ → ℤ) (n i : ℕ) → i < n → f i ≡ at (tab f n) i
unfolding tab
at_tab f zero i h = absurd (not-suc-le-zero h)
at_tab f (suc n) i h =
    ⊎_elim
    (λ (e : i ≡ n). rw e (sym (get_or_at (tab f n) (f n) [] (pos 0) n (length_tab f n))))
    (λ (l : i < n).
    at_tab f n i l ∙ at_left (tab f n) (f n ∷ []) i (rw (length_tab f n) l))
    (eq-or-lt_of_le (le_of_suc-le-suc h))

-- ---- two lists of the same length, entry by entry
pub length_pairwise : (f : ℤ → ℤ → ℤ) (xs ys : List ℤ) → length xs ≡ length ys → length (pairwise f xs ys) ≡ length xs
length_pairwise f [] ys e = refl
length_pairwise f (x ∷ xs) [] e = cc
length_pairwise f (x ∷ xs) (y ∷ ys) e = ap suc (length_pairwise f xs ys (omega (arith, e)))

pub at_pairwise : (f : ℤ → ℤ → ℤ) (xs ys : List ℤ) (i : ℕ) → i < length xs → i < length ys → f (at xs i) (at ys i) ≡ at (pairwise f xs ys) i
at_pairwise f [] ys i h k = absurd (not-suc-le-zero h)
at_pairwise f (x ∷ xs) [] i h k = absurd (not-suc-le-zero k)
at_pairwise f (x ∷ xs) (y ∷ ys) zero h k = refl
at_pairwise f (x ∷ xs) (y ∷ ys) (suc i) h k = at_pairwise f xs ys i (le_of_suc-le-suc h) (le_of_suc-le-suc k)

-- a list of four, one by one
pub four_entries : {A : Type 0} (d : A) (xs : List A) → length xs ≡ 4 → get_or xs 0 d ∷ get_or xs 1 d ∷ get_or xs 2 d ∷ get_or xs 3 d ∷ [] ≡ xs
four_entries d [] e = absurd (omega (arith, e))
four_entries d (w ∷ []) e = absurd (omega (arith, e))
four_entries d (w ∷ x ∷ []) e = absurd (omega (arith, e))
four_entries d (w ∷ x ∷ y ∷ []) e = absurd (omega (arith, e))
four_entries d (w ∷ x ∷ y ∷ z ∷ []) e = refl
four_entries d (w ∷ x ∷ y ∷ z ∷ v ∷ vs) e = absurd (omega (arith, e))

-- ---- what holds of every entry
pub every_append : {A : Type 0} (P : A → Type 0) (xs ys : List A) → Every P xs → Every P ys → Every P (xs ++ ys)
every_append P [] ys p q = q
every_append P (x ∷ xs) ys p q = (p.0, every_append P xs ys p.1 q)

pub every_map : {A : Type 0} {P Q : A → Type 0} → ((x : A) → P x → Q x) → (xs : List A) → Every P xs → Every Q xs
every_map f [] p = tt
every_map f (x ∷ xs) p = (f x p.0, every_map f xs p.1)

pub every_at : (P : ℤ → Type 0) (xs : List ℤ) → ((i : ℕ) → P (at xs i)) → Every P xs
every_at P [] p = tt
every_at P (x ∷ xs) p = (p 0, every_at P xs (λ i. p (suc i)))

pub every_get : (P : ℤ → Type 0) (xs : List ℤ) → Every P xs → (i : ℕ) → i < length xs → P (at xs i)
every_get P [] p i h = absurd (not-suc-le-zero h)
every_get P (x ∷ xs) p zero h = p.0
every_get P (x ∷ xs) p (suc i) h = every_get P xs p.1 i (le_of_suc-le-suc h)

-- ---- what holds of 0 and of each number that a list is made of holds of every entry, also past the end
module _ (P : ℤ → Type 0) (none : P (pos 0)) where
  pub each_append : (xs ys : List ℤ) → ((i : ℕ) → P (at xs i)) → ((i : ℕ) → P (at ys i)) → (i : ℕ) → P (at (xs ++ ys) i)
  each_append [] ys p q i = q i
  each_append (x ∷ xs) ys p q zero = p zero
  each_append (x ∷ xs) ys p q (suc i) = each_append xs ys (λ j. p (suc j)) q i

  pub each_tab : (f : ℕ → ℤ) (n : ℕ) → ((k : ℕ) → P (f k)) → (i : ℕ) → P (at (tab f n) i)
  unfolding tab
  each_tab f zero p i = none
  each_tab f (suc n) p i = each_append (tab f n) (f n ∷ []) (each_tab f n p) last i
    where
      last : (i : ℕ) → P (at (f n ∷ []) i)
      last zero = p n
      last (suc i) = none

  pub each_take : (n : ℕ) (xs : List ℤ) → ((i : ℕ) → P (at xs i)) → (i : ℕ) → P (at (take n xs) i)
  each_take zero xs p i = none
  each_take (suc n) [] p i = none
  each_take (suc n) (x ∷ xs) p zero = p zero
  each_take (suc n) (x ∷ xs) p (suc i) = each_take n xs (λ j. p (suc j)) i

  pub each_map : (f : ℤ → ℤ) → ((x : ℤ) → P (f x)) → (xs : List ℤ) (i : ℕ) → P (at (map f xs) i)
  each_map f p [] i = none
  each_map f p (x ∷ xs) zero = p x
  each_map f p (x ∷ xs) (suc i) = each_map f p xs i

  pub each_pairwise : (f : ℤ → ℤ → ℤ) → ((x y : ℤ) → P (f x y)) → (xs ys : List ℤ) (i : ℕ) → P (at (pairwise f xs ys) i)
  each_pairwise f p [] ys i = none
  each_pairwise f p (x ∷ xs) [] i = none
  each_pairwise f p (x ∷ xs) (y ∷ ys) zero = p x y
  each_pairwise f p (x ∷ xs) (y ∷ ys) (suc i) = each_pairwise f p xs ys i

pub each_drop : (P : ℤ → Type 0) → P (pos 0) → (n : ℕ) (zs : List ℤ) → ((i : ℕ) → P (at zs i)) → (i : ℕ) → P (at (drop n zs) i)
each_drop P o zero zs f i = f i
each_drop P o (suc n) [] f i = o
each_drop P o (suc n) (z ∷ zs) f i = each_drop P o n zs (λ j. f (suc j)) i

-- ---- n numbers from number k on
pub stretch_length : (xs : List ℤ) (k n : ℕ) → k + n ≤ length xs → length (take n (drop k xs)) ≡ n
stretch_length xs k n h = length-take-le n (drop k xs) (rw (length-drop k xs) (omega arith))

pub stretch_at : (xs : List ℤ) (k n i : ℕ) → i < n → at xs (k + i) ≡ at (take n (drop k xs)) i
stretch_at xs k n i h = sym (get_or-take n (drop k xs) i (pos 0) h ∙ get_or-drop k xs i (pos 0))

-- of a list of k + n, those from number k on
pub stretch_end : {A : Type 0} (xs : List A) (k n : ℕ) → length xs ≡ k + n → take n (drop k xs) ≡ drop k xs
stretch_end xs k n l = take_all n (drop k xs) (rw (length-drop k xs) (omega (arith, l)))
