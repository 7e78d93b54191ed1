-- An array that `array::from_fn` made entry by entry is the list of those entries.
use Rattle.std.proofs.Common.{ℕ, zero, suc, ◌+◌, ◌≤◌, ◌<◌, ◌≡◌, refl, sym, ◌∙◌, List, map, ⊎_elim, eq-or-lt_of_le, arith, length, ℤ, pos}
use Rattle.std.proofs.Math.ListN.{length-map}
use Rattle.std.proofs.lemmas.List.{ext_get_or}
use Rattle.std.specs.Fn.{Mut, Called}
use Rattle.std.specs.Array.{IsFromFnResult, IsFromFnResultFrom, index_steps}
use Rattle.std.specs.Iterator.{CallableAtEachTurn}
use Rattle.std.proofs.lemmas.Fn.{serves_by}
use Rattle.lists.specs.Lists.{at, pairwise, tab}
use Rattle.lists.proofs.Entries.{at_map, at_pairwise, at_tab, length_pairwise, length_tab}

-- each call below n leaves the closure as it was, and gives entry i of xs
abbrev Gives : {F : Type 0} → Mut F (ℕ × Unit {0}) ℤ → F → List ℤ → ℕ → Type 0
Gives {F} g f xs n = (i : ℕ) (q : F) (y : ℤ) → i < n → Called g f (i, tt) y q → (q ≡ f) × (y ≡ at xs i)

made_from : {F : Type 0} (g : Mut F (ℕ × Unit {0}) ℤ) (f : F) (xs ys : List ℤ) (n : ℕ) → Gives g f xs n
    → (i m : ℕ) → i + m ≤ n → IsFromFnResultFrom g f ys i m → (k : ℕ) → i ≤ k → k < i + m → at ys k ≡ at xs k
made_from g f xs ys n step i zero l r k a b = absurd (omega (arith, a, b))
made_from g f xs ys n step i (suc m) l r k a b =
    let s = step i r.0 r.1 (omega (arith, l)) r.3 in
    ⊎_elim
    (λ (h : i ≡ k). rw (← h) (r.2.1 (pos 0) ∙ s.1))
    (λ (h : i < k). made_from g f xs ys n step (i + 1) m (omega (arith, l)) (rw s.0 at r.4) k (omega (arith, h)) (omega (arith, b)))
    (eq-or-lt_of_le a)

module _ {F : Type 0} (g : Mut F (ℕ × Unit {0}) ℤ) (f : F) where
  -- The last argument of an answer is `λ i q y h c. search rules`: it hides the goal's own `c`, whose fields a search would read first.
  pub made : (xs : List ℤ) {ys : List ℤ} {n : ℕ} → IsFromFnResult g f ys n → length xs ≡ n
      → ((i : ℕ) (q : F) (y : ℤ) → i < n → Called g f (i, tt) y q → (q ≡ f) × (y ≡ at xs i)) → ys ≡ xs
  made xs {ys} {n} r l step =
      ext_get_or (pos 0) ys xs (r.long ∙ sym l)
      (λ i h. made_from g f xs ys n step 0 n (omega arith) r.each i (omega arith) (omega (arith, h, r.long)))

  -- h of each number
  pub made_map : (h : ℤ → ℤ) (xs : List ℤ) {ys : List ℤ} {n : ℕ} → IsFromFnResult g f ys n → length xs ≡ n
      → ((i : ℕ) (q : F) (y : ℤ) → i < n → Called g f (i, tt) y q → (q ≡ f) × (y ≡ h (at xs i))) → ys ≡ map h xs
  made_map h xs {ys} {n} r l step =
      made (map h xs) r (length-map xs h ∙ l)
      (λ i q y b c. let s = step i q y b c in (s.0, s.1 ∙ at_map h xs i (omega (arith, b, l))))

  -- h of the two numbers in each place
  pub made_pairwise : (h : ℤ → ℤ → ℤ) (xs ys : List ℤ) {zs : List ℤ} {n : ℕ} → IsFromFnResult g f zs n → length xs ≡ n → length ys ≡ n
      → ((i : ℕ) (q : F) (y : ℤ) → i < n → Called g f (i, tt) y q → (q ≡ f) × (y ≡ h (at xs i) (at ys i))) → zs ≡ pairwise h xs ys
  made_pairwise h xs ys {zs} {n} r lx ly step =
      made (pairwise h xs ys) r (length_pairwise h xs ys (lx ∙ sym ly) ∙ lx)
      (λ i q y b c. let s = step i q y b c in (s.0, s.1 ∙ at_pairwise h xs ys i (omega (arith, b, lx)) (omega (arith, b, ly))))

  -- h of each place
  pub made_tab : (h : ℕ → ℤ) {ys : List ℤ} {n : ℕ} → IsFromFnResult g f ys n
      → ((i : ℕ) (q : F) (y : ℤ) → i < n → Called g f (i, tt) y q → (q ≡ f) × (y ≡ h i)) → ys ≡ tab h n
  made_tab h {ys} {n} r step =
      made (tab h n) r (length_tab h n)
      (λ i q y b c. let s = step i q y b c in (s.0, s.1 ∙ at_tab h n i b))

-- What `from_fn` asks, where the closure asks something of what it is called at: it may be called at each place below n, and stays as it was.
pub callable : {P : Type 0} {R : P → ℕ → P → Type 0} {Q : P → ℕ → Type 0} {n : ℕ} {f : P} → ((i : ℕ) (q : P) → R f i q → q ≡ f) → ((i : ℕ) → i < n → Q f i) → CallableAtEachTurn (index_steps n) R Q 0 f
callable {R = R} {Q} {n} {f} keeps may =
    serves_by R (λ xs q. q ≡ f)
    (λ xs q x v e r. keeps x v (rw e at r))
    (index_steps n) Q 0 f refl
    (λ xs t q x u y s e. rw e (may x (omega (arith, s.0, s.1))))
