-- The rounds of a program over an input of which it is known what is left: what they have made, and what is still to come.
use Rattle.std.proofs.Common.{◌≡◌, sym, ap, ◌∙◌, refl, List, [], ◌∷◌, ◌++◌, append_assoc, append-nil, ℕ, zero, suc, take, drop}
use Rattle.std.specs.Prelude.{Option, None, Some, IfSome}
use Rattle.sheets.specs.declared.Step.{Step}
use Rattle.sheets.specs.Sheets.{sheet_bytes}
use Rattle.sheets.specs.Reading.{TakesFirst}
use Rattle.sheets.specs.Rounds.{rounds}

module _ {A C : Type 0} (step : C → List ℕ → Step A C) where
  -- nothing is carried to a next round, or no round is left
  pub rounds-none : (k : ℕ) (input : List ℕ) → rounds step k None input ≡ []
  unfolding rounds
  rounds-none zero input = refl
  rounds-none (suc k) input = refl

  pub rounds-zero : (next : Option C) (input : List ℕ) → rounds step 0 next input ≡ []
  unfolding rounds
  rounds-zero next input = refl

  pub rounds-more : (k : ℕ) (carried : C) (input : List ℕ) (r : Step A C) → r ≡ step carried (take sheet_bytes input)
      → rounds step (suc k) (Some carried) input ≡ r.made ∷ rounds step k r.next (drop sheet_bytes input)
  unfolding rounds
  rounds-more k carried input r e = rw e

  -- of an input, what k rounds make, begun with `first`, is what was made, and then what j rounds of the rest make, begun with `next`
  abbrev pub ToCome : Option (List ℕ) → Option (List ℕ) → ℕ → Option C → List A → ℕ → Option C → Type 0
  ToCome None rest k first made j next = Unit {0}
  ToCome (Some xs) None k first made j next = ⊥
  ToCome (Some xs) (Some ys) k first made j next = rounds step k first xs ≡ made ++ rounds step j next ys

  -- no round is over yet
  pub none_over : (input : Option (List ℕ)) (k : ℕ) (first : Option C) → ToCome input input k first [] k first
  none_over None k first = tt
  none_over (Some xs) k first = refl

  -- a round, on the bytes that came
  pub round_over : (input ys zs : Option (List ℕ)) (k : ℕ) (first : Option C) (made : List A) (i j : ℕ) (carried : C) (came : List ℕ) (r : Step A C)
      → ToCome input ys k first made i (Some carried) → TakesFirst ys zs sheet_bytes came → r ≡ step carried came → i ≡ suc j
      → ToCome input zs k first (made ++ (r.made ∷ [])) j r.next
  round_over None ys zs k first made i j carried came r p t e q = tt
  round_over (Some xs) None zs k first made i j carried came r p t e q = absurd p
  round_over (Some xs) (Some ys) None k first made i j carried came r p t e q = absurd t
  round_over (Some xs) (Some ys) (Some zs) k first made i j carried came r p t e q =
      p
      ∙ ap (λ (n : ℕ). made ++ rounds step n (Some carried) ys) q
      ∙ ap (λ (l : List A). made ++ l) (rounds-more j carried ys r (e ∙ ap (step carried) t.0))
      ∙ ap (λ (l : List ℕ). made ++ (r.made ∷ rounds step j r.next l)) (sym t.1)
      ∙ sym (append_assoc made (r.made ∷ []) (rounds step j r.next zs))

  -- no round is left, or nothing was carried on: all was made
  pub all_over : (input ys : Option (List ℕ)) (k : ℕ) (first : Option C) (made : List A) (j : ℕ) (next : Option C)
      → ToCome input ys k first made j next → IfSome ys (λ rest. rounds step j next rest ≡ []) → IfSome input (λ xs. rounds step k first xs ≡ made)
  all_over None ys k first made j next p f = tt
  all_over (Some xs) None k first made j next p f = absurd p
  all_over (Some xs) (Some ys) k first made j next p f = p ∙ ap (λ (l : List A). made ++ l) f ∙ append-nil made

  pub none_left : (input ys : Option (List ℕ)) (k : ℕ) (first : Option C) (made : List A) (j : ℕ) (next : Option C)
      → ToCome input ys k first made j next → next ≡ None → IfSome input (λ xs. rounds step k first xs ≡ made)
  none_left input ys k first made j next p e = all_over input ys k first made j next p (go ys)
    where
      go : (zs : Option (List ℕ)) → IfSome zs (λ rest. rounds step j next rest ≡ [])
      go None = tt
      go (Some rest) = ap (λ (n : Option C). rounds step j n rest) e ∙ rounds-none j rest

  pub zero_left : (input ys : Option (List ℕ)) (k : ℕ) (first : Option C) (made : List A) (j : ℕ) (next : Option C)
      → ToCome input ys k first made j next → j ≡ 0 → IfSome input (λ xs. rounds step k first xs ≡ made)
  zero_left input ys k first made j next p e = all_over input ys k first made j next p (go ys)
    where
      go : (zs : Option (List ℕ)) → IfSome zs (λ rest. rounds step j next rest ≡ [])
      go None = tt
      go (Some rest) = ap (λ (n : ℕ). rounds step n next rest) e ∙ rounds-zero next rest
