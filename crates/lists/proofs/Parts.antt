-- A list and its parts: cut by their counts, and joined again.
use Rattle.std.proofs.Common.{ℕ, zero, suc, ◌+◌, ◌<◌, ◌≡◌, refl, ap, ◌∙◌, List, [], ◌∷◌, arith, length, take, drop, get_or, length-drop, take-append-drop, length-take-le, take_at, drop_at, take_all, get_or-take, get_or-drop}
use Rattle.lists.specs.Parts.{joined, total, cut, part_at}

module _ {A : Type 0} where
  -- P holds of each count and its part, and there are as many of both
  abbrev pub Each : (ℕ → List A → Type 0) → List ℕ → List (List A) → Type 0
  Each P [] [] = Unit {0}
  Each P [] (p ∷ ps) = ⊥
  Each P (n ∷ ns) [] = ⊥
  Each P (n ∷ ns) (p ∷ ps) = P n p × Each P ns ps

  abbrev pub Counted : List ℕ → List (List A) → Type 0
  Counted = Each (λ (n : ℕ) (p : List A). length p ≡ n)

  pub each_so : {P Q : ℕ → List A → Type 0} → ((n : ℕ) (p : List A) → P n p → Q n p) → (ns : List ℕ) (ps : List (List A)) → Each P ns ps → Each Q ns ps
  each_so f [] [] e = tt
  each_so f [] (p ∷ ps) e = absurd e
  each_so f (n ∷ ns) [] e = absurd e
  each_so f (n ∷ ns) (p ∷ ps) e = (f n p e.0, each_so f ns ps e.1)

  pub cut_joined : (ns : List ℕ) (ps : List (List A)) → Counted ns ps → cut ns (joined ps) ≡ ps
  cut_joined [] [] c = refl
  cut_joined [] (p ∷ ps) c = absurd c
  cut_joined (n ∷ ns) [] c = absurd c
  cut_joined (n ∷ ns) (p ∷ ps) c = rw (take_at p (joined ps) n c.0, drop_at p (joined ps) n c.0, cut_joined ns ps c.1)

  pub counted_cut : (ns : List ℕ) (xs : List A) → length xs ≡ total ns → Counted ns (cut ns xs)
  counted_cut [] xs e = tt
  counted_cut (n ∷ ns) xs e = (length-take-le n xs (omega (arith, e)), counted_cut ns (drop n xs) (length-drop n xs ∙ omega (arith, e)))

  pub joined_cut : (ns : List ℕ) (xs : List A) → length xs ≡ total ns → joined (cut ns xs) ≡ xs
  joined_cut [] xs e = take_all 0 xs (omega (arith, e))
  joined_cut (n ∷ ns) xs e = rw (joined_cut ns (drop n xs) (length-drop n xs ∙ omega (arith, e))) (take-append-drop n xs)

  -- entry i of part k is the list's, from where the part starts
  pub at_cut : (ns : List ℕ) (xs : List A) (k i : ℕ) (d : A) → i < get_or ns k 0 → get_or (part_at (cut ns xs) k) i d ≡ get_or xs (total (take k ns) + i) d
  at_cut [] xs k i d h = absurd (omega arith)
  at_cut (n ∷ ns) xs zero i d h = let e : i ≡ 0 + i = omega arith in get_or-take n xs i d h ∙ ap (λ (j : ℕ). get_or xs j d) e
  at_cut (n ∷ ns) xs (suc k) i d h =
      let e : n + (total (take k ns) + i) ≡ n + total (take k ns) + i = omega arith in
      at_cut ns (drop n xs) k i d h ∙ get_or-drop n xs (total (take k ns) + i) d ∙ ap (λ (j : ℕ). get_or xs j d) e

-- a part of one entry is that entry
pub one_entry : {A : Type 0} (p : List A) (d : A) → length p ≡ 1 → get_or p 0 d ∷ [] ≡ p
one_entry [] d e = absurd (omega (arith, e))
one_entry (x ∷ []) d e = refl
one_entry (x ∷ y ∷ p) d e = absurd (omega (arith, e))
