-- The residual's sum: where the row's weight is below 32768 no step clamps.
use Rattle.std.proofs.Common.{ℕ, suc, ◌+◌, ◌*◌, ◌-◌, ◌^◌, ◌≤◌, ◌<◌, ◌≡◌, sym, ◌∙◌, Bool, true, List, le_refl, add_comm, add-one, arith, ℤ, pos, nat_abs, length, take, drop, get_or-take, length-take-le}
use Rattle.std.specs.Int.Signed.{mag, nat_abs-le}
use Rattle.lists.specs.Lists.{at}
use Rattle.lists.proofs.Entries.{at_drop}
use Rattle.lists.proofs.Count.{Iter, iter_none, iter_more, iter_same}
use Rattle.basicop.specs.Ops.{l_mult, l_mac}
use Rattle.basicop.specs.Inner.{sizes}
use Rattle.basicop.proofs.Range.{mul_bound}
use Rattle.basicop.proofs.Unclamped.{mac_first, sizes_most, Step, step}
use Rattle.synthesis.specs.Recursion.{ago}
use Rattle.synthesis.specs.Inner.{weight}
use Rattle.postfilter.specs.Residual.{residual_step, residual_sum}

-- the sum after j steps
pub record Summed (a x : List ℤ) (p : ℕ) (plain : Bool) (s : ℤ) (j : ℕ) : Type 0 where
  pub run : Iter (residual_step a x p) (l_mult (at x p) (at a 0)) s j
  pub size : plain ≡ true → nat_abs s ≤ 2 * (32768 * sizes (at a) (j + 1))

module _ (a x : List ℤ) (p : ℕ) {plain : Bool} (light : plain ≡ true → weight a < 32768) where
  room : (k : ℕ) → k < 11 → plain ≡ true → 32768 * (sizes (at a) k + nat_abs (at a k)) < 1073741824
  unfolding sizes
  room k u q = omega (arith, light q, sizes_most (at a) (suc k) 11 u)

  module _ (h : mag (at x p) < 2 ^ 15) where
    pub first : plain ≡ true → Step 32768 0 (nat_abs (at a 0)) (pos 0) (at x p) (at a 0)
    unfolding sizes
    first q = step 32768 0 _ _ _ _ (le_refl 0) (mul_bound (at x p) (at a 0) (nat_abs-le (at x p) h) (le_refl _)) (room 0 (omega arith) q)

    pub summed_none : {s : ℤ} → s ≡ l_mac (pos 0) (at x p) (at a 0) → Summed a x p plain s 0
    unfolding sizes
    summed_none e = record { run = iter_none (e ∙ mac_first (at x p) (at a 0)); size = λ q. rw e (first q).size }

  module _ {s : ℤ} {j : ℕ} (r : Summed a x p plain s j) (u : j < 10) (h : mag (at x (p - (j + 1))) < 2 ^ 15) where
    abbrev c : ℤ
    c = at a (j + 1)

    abbrev v : ℤ
    v = at x (p - (j + 1))

    pub next : plain ≡ true → Step 32768 (sizes (at a) (j + 1)) (nat_abs c) s c v
    next q = step 32768 _ _ s c v (r.size q) (omega (arith, mul_bound c v (le_refl _) (nat_abs-le v h))) (room (j + 1) (omega arith) q)

    pub summed_more : {t : ℤ} → t ≡ l_mac s c v → Summed a x p plain t (j + 1)
    unfolding sizes
    summed_more e = record { run = iter_more r.run (rw (← add-one j) e); size = λ q. rw (e, add-one (j + 1)) (next q).size }

-- an input reads no more than itself and the ten before it
pub residual_window : (a x : List ℤ) (n : ℕ) → n + 11 ≤ length x → residual_sum a (take 11 (drop n x)) 10 ≡ residual_sum a x (n + 10)
unfolding residual_sum
residual_window a x n h =
    rw (entry 10 (omega arith)) (iter_same 10 (l_mult (at x (n + 10)) (at a 0)) (λ j l s.
    let e : n + (10 - suc j) ≡ n + 10 - suc j = omega arith in
    rw (entry (10 - suc j) (omega arith), e)))
  where
    entry : (i : ℕ) → i < 11 → at (take 11 (drop n x)) i ≡ at x (n + i)
    entry i l = get_or-take 11 (drop n x) i (pos 0) l ∙ sym (rw (add_comm n i) (at_drop x n i))

-- the input that step j takes, of the ten before the last
pub ago_input : (x : List ℤ) (j : ℕ) → length x ≡ 11 → j < 10 → ago (take 10 x) (suc j) ≡ at x (10 - (j + 1))
ago_input x j l h =
    let n : length (take 10 x) ≡ 10 = length-take-le 10 x (omega (arith, l)) in
    rw (n, ← add-one j) (get_or-take 10 x (10 - (j + 1)) (pos 0) (omega arith))
