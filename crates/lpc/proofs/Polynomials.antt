-- The polynomial of one degree more, as the code makes it in an array of six.
use Rattle.std.proofs.Common.{ℕ, zero, suc, ◌+◌, ◌*◌, ◌-◌, ◌≤◌, ◌<◌, ◌≡◌, refl, sym, ap, ◌∙◌, List, not-suc-le-zero, le_of_suc-le-suc, add-one, arith, ℤ, pos, length, take, set, length-append, get_or-take, length-take-le, take-suc-set}
use Rattle.lists.specs.Lists.{at, tab}
use Rattle.lists.proofs.Entries.{at_tab}
use Rattle.basicop.specs.Ops.{l_msu}
use Rattle.lpc.specs.Rows.{raised_from, raised_at, raised, polynomial, every_second}

-- the n coefficients at the front of e, made from those of e
abbrev pub step : List ℤ → ℤ → ℕ → List ℤ
step e r n = tab (raised_at (take n e) r) n

module _ (e : List ℤ) (r : ℤ) (n : ℕ) where
  pub step_zero : 0 < n → at e 0 ≡ at (step e r n) 0
  unfolding raised_at
  step_zero h = sym (get_or-take n e 0 (pos 0) h) ∙ at_tab (raised_at (take n e) r) n 0 h

  pub step_one : {a : ℤ} → 1 < n → a ≡ at e 1 → l_msu a r (pos 512) ≡ at (step e r n) 1
  unfolding raised_at
  step_one h p = rw (p, ← get_or-take n e 1 (pos 0) h) (at_tab (raised_at (take n e) r) n 1 h)

  pub step_more : {a b c : ℤ} (j : ℕ) → 2 ≤ j → j < n → a ≡ at e j → b ≡ at e (j - 1) → c ≡ at e (j - 2) → raised_from a b c r ≡ at (step e r n) j
  unfolding raised_at
  step_more zero h l p q s = absurd (not-suc-le-zero h)
  step_more (suc zero) h l p q s = absurd (not-suc-le-zero (le_of_suc-le-suc h))
  step_more (suc (suc j)) h l p q s =
      let k : suc (suc j) - 1 ≡ suc j = omega arith in
      let m : suc (suc j) - 2 ≡ j = omega arith in
      rw (p, q, s, k, m, ← get_or-take n e (suc (suc j)) (pos 0) l, ← get_or-take n e (suc j) (pos 0) (omega arith), ← get_or-take n e j (pos 0) (omega arith)) (at_tab (raised_at (take n e) r) n (suc (suc j)) l)

-- where e is f with its last coefficient but one once more on top, that is the polynomial of one degree more
pub step_is : (f : List ℤ) (r : ℤ) (n : ℕ) → 2 ≤ n → n < length f → step (set f n (at f (n - 2))) r (n + 1) ≡ raised (take n f) r
step_is f r n h l =
    let k : length (take n f) ≡ n = length-take-le n f (omega arith) in
    rw (add-one, take-suc-set f n (at f (n - 2)) l, length-append (take n f), k, get_or-take n f (n - 2) (pos 0) (omega arith)) (ap (tab _) (sym (add-one n)))

-- ---- the recursion on the degree
pub polynomial_more : (q : List ℤ) (d : ℕ) (f : List ℤ) {r : List ℤ} → 2 ≤ d → take (d - 1 + 1) f ≡ polynomial q (d - 1 - 1) → r ≡ raised (take d f) (at q (d - 1)) → r ≡ polynomial q (d - 1)
unfolding polynomial
polynomial_more q d f h ef er =
    let i : d - 1 + 1 ≡ d = omega arith in
    let j : d - 1 - 1 ≡ d - 2 = omega arith in
    let m : d - 1 ≡ suc (d - 2) = omega arith in
    er ∙ rw (rw (i, j) at ef, m)

-- ---- every second of ten
pub every_second_at : (q : List ℤ) (o k : ℕ) → k < 5 → at q (o + 2 * k) ≡ at (every_second o q) k
every_second_at q o zero h = ap (at q) (omega arith)
every_second_at q o (suc zero) h = refl
every_second_at q o (suc (suc zero)) h = refl
every_second_at q o (suc (suc (suc zero))) h = refl
every_second_at q o (suc (suc (suc (suc zero)))) h = refl
every_second_at q o (suc (suc (suc (suc (suc k))))) h = absurd (past h)
  where
    past : suc (suc (suc (suc (suc k)))) < 5 → ⊥
    past h = omega arith
