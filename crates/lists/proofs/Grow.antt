-- A loop that feeds on what it made: the first off + n places of buf are the list so far.
use Rattle.std.proofs.Common.{ℕ, zero, suc, ◌+◌, ◌<◌, ◌≡◌, sym, ap, ◌∙◌, subst, List, [], ◌∷◌, ◌++◌, ⊎_elim, add-one, add-zero, add-suc, not-suc-le-zero, le_of_suc-le-suc, eq-or-lt_of_le, arith, length, set, take, length-set, length-append, take-suc-set, take_all, ℤ, pos}
use Rattle.std.proofs.Math.Seq.{set-get_or, get_or_at}
use Rattle.lists.specs.Lists.{at, iter, grow}
use Rattle.lists.proofs.Entries.{at_left}
use Rattle.lists.proofs.Count.{Iter, iter_none, iter_more, iter_done}

pub record Grown (g : ℕ → List ℤ → ℤ) (base : List ℤ) (off len : ℕ) (buf : List ℤ) (n : ℕ) : Type 0 where
  pub room : length buf ≡ len
  pub made : Iter (grow g) base (take (off + n) buf) n

pub grown_none : {g : ℕ → List ℤ → ℤ} {base : List ℤ} {off len : ℕ} {buf : List ℤ} → length buf ≡ len → take off buf ≡ base → Grown g base off len buf 0
grown_none {off = off} {buf = buf} l e = record { room = l; made = iter_none (rw (add-zero off) e) }

pub grown_more : {g : ℕ → List ℤ → ℤ} {base : List ℤ} {off len : ℕ} {buf : List ℤ} {n : ℕ} {v : ℤ} → Grown g base off len buf n → v ≡ g n (take (off + n) buf) → off + n < len → Grown g base off len (set buf (off + n) v) (n + 1)
grown_more {g} {base} {off} {len} {buf} {n} {v} r e h =
    let lb : off + n < length buf = omega (arith, r.room) in
    let k : off + (n + 1) ≡ suc (off + n) = omega arith in
    record {
      room = length-set buf (off + n) v ∙ r.room;
      made = iter_more r.made (rw k (take-suc-set buf (off + n) v lb ∙ rw e));
    }

-- a place that is right as it stands needs no store
pub grown_keep : {g : ℕ → List ℤ → ℤ} {base : List ℤ} {off len : ℕ} {buf : List ℤ} {n : ℕ} → Grown g base off len buf n → at buf (off + n) ≡ g n (take (off + n) buf) → off + n < len → Grown g base off len buf (n + 1)
grown_keep {off = off} {buf = buf} {n = n} r e h = rw (set-get_or buf (off + n) (pos 0)) at (grown_more r e h)

-- the last place is written
pub grown_done : {g : ℕ → List ℤ → ℤ} {base : List ℤ} {off len : ℕ} {buf : List ℤ} {n : ℕ} → Grown g base off len buf n → (m : ℕ) → n ≡ m → off + m ≡ len → buf ≡ iter (grow g) m base
grown_done {off = off} {buf = buf} {n = n} r m e h = sym (take_all (off + n) buf (omega (arith, r.room))) ∙ iter_done r.made m e

-- ---- a list that grows by an entry each step
module _ (g : ℕ → List ℤ → ℤ) (base : List ℤ) where
  pub length_grow : (n : ℕ) → length (iter (grow g) n base) ≡ length base + n
  unfolding iter
  length_grow zero = sym (add-zero (length base))
  length_grow (suc n) =
      length-append (iter (grow g) n base) (g n (iter (grow g) n base) ∷ []) ∙ rw (length_grow n, add-one) (sym (add-suc (length base) n))

  -- what every new entry is, entry k of them is
  pub grow_each : (P : ℤ → Type 0) → ((n : ℕ) (y : List ℤ) → P (g n y)) → (n k : ℕ) → k < n → P (at (iter (grow g) n base) (length base + k))
  unfolding iter
  grow_each P p zero k h = absurd (not-suc-le-zero h)
  grow_each P p (suc n) k h =
      let y = iter (grow g) n base in
      let z = g n y in
      ⊎_elim
      (λ (e : k ≡ n). subst P (sym (ap (λ (i : ℕ). at (y ++ (z ∷ [])) (length base + i)) e ∙ get_or_at y z [] (pos 0) (length base + n) (length_grow n))) (p n y))
      (λ (l : k < n). subst P (at_left y (z ∷ []) (length base + k) (rw (length_grow n) (omega arith))) (grow_each P p n k l))
      (eq-or-lt_of_le (le_of_suc-le-suc h))
