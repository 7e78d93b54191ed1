-- The loop that sharpens an innovation in place, from the lag t on.
use Rattle.std.proofs.Common.{ℕ, zero, suc, min, ◌+◌, ◌-◌, ◌≤◌, ◌<◌, ◌≡◌, refl, ◌∙◌, List, [], le_refl, arith, lt-ltb, le-ltb, ℤ, pos, length, set, take, get_or-take, get_or-set_other}
use Rattle.lists.specs.Lists.{at, iter, grow}
use Rattle.lists.proofs.Grow.{Grown, grown_none, grown_keep, grown_more, grown_done}
use Rattle.basicop.specs.Ops.{add, mult}
use Rattle.basicop.proofs.Naturals.{minus}
use Rattle.excitation.specs.Excitation.{sharpened_at}

module _ (code : List ℤ) (t : ℕ) (g : ℤ) where
  -- the first i places are sharpened, and the others as they came
  pub record Sharper (out : List ℤ) (i : ℕ) : Type 0 where
    pub made : Grown (sharpened_at code (pos t) g) [] 0 40 out (min i 40)
    pub rest : (j : ℕ) → i ≤ j → at out j ≡ at code j

  -- below the lag nothing changes
  below : length code ≡ 40 → (k : ℕ) → k ≤ t → k ≤ 40 → Grown (sharpened_at code (pos t) g) [] 0 40 code k
  below l zero h u = grown_none l refl
  below l (suc k) h u =
      let s : suc k ≡ k + 1 = omega arith in
      let z : 0 + k ≡ k = omega arith in
      rw s (grown_keep (below l k (omega arith) (omega arith)) (rw (z, lt-ltb k t h)) (omega arith))

  pub sharper_none : length code ≡ 40 → Sharper code t
  sharper_none l = record { made = below l (min t 40) (omega arith) (omega arith); rest = λ j h. refl }

  pub sharper_more : {out : List ℤ} {i : ℕ} {v : ℤ} → Sharper out i → 1 ≤ t → t ≤ i → i < 40 → v ≡ add (at out i) (mult (at out (i - t)) g) → Sharper (set out i v) (i + 1)
  sharper_more {out} {i} {v} s p h l e =
      let m : min i 40 ≡ i = omega arith in
      let n : min (i + 1) 40 ≡ i + 1 = omega arith in
      let z : 0 + i ≡ i = omega arith in
      let r : Grown (sharpened_at code (pos t) g) [] 0 40 out i = rw m at s.made in
      let f : v ≡ sharpened_at code (pos t) g i (take (0 + i) out) = rw (z, le-ltb i t h, minus i t h, get_or-take i out (i - t) (pos 0) (omega arith), ← s.rest i (le_refl i)) e in
      record {
        made = rw n (rw z at (grown_more r f (omega arith)));
        rest = λ j k. get_or-set_other out i j v (pos 0) (λ q. past i j k q) ∙ s.rest j (omega arith);
      }
    where
      past : (i j : ℕ) → i + 1 ≤ j → j ≡ i → ⊥
      past i j k q = omega arith

  pub sharper_done : {out : List ℤ} {i : ℕ} → Sharper out i → 40 ≤ i → out ≡ iter (grow (sharpened_at code (pos t) g)) 40 []
  sharper_done {out} {i} s h = grown_done s.made 40 (omega arith) (omega arith)
