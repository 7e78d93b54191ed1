-- A loop that fills an array from the front: after i turns it agrees with the wanted list in the first i places.
use Rattle.std.proofs.Common.{ℕ, ◌+◌, ◌≤◌, ◌<◌, ◌≡◌, refl, sym, ◌∙◌, List, add-one, arith, length, set, take, length-set, get_or-set_other, take-suc, take-suc-set, take_all, ℤ, pos}
use Rattle.std.proofs.Math.Seq.{set-get_or}
use Rattle.lists.specs.Lists.{at}

pub record Filled (n m : ℕ) (src out : List ℤ) (i : ℕ) : Type 0 where
  pub source : length src ≡ n
  pub room : length out ≡ m
  pub same : take i out ≡ take i src

pub fill_none : {n m : ℕ} {src out : List ℤ} → length src ≡ n → length out ≡ m → Filled n m src out 0
fill_none s o = record { source = s; room = o; same = refl }

pub fill_more : {n m : ℕ} {src out : List ℤ} {i : ℕ} {v : ℤ} → Filled n m src out i → v ≡ at src i → i < n → i < m → Filled n m src (set out i v) (i + 1)
fill_more {src = src} {out = out} {i = i} {v = v} f e hs ho =
    let ls : i < length src = omega (arith, f.source) in
    let lo : i < length out = omega (arith, f.room) in
    record {
      source = f.source;
      room = length-set out i v ∙ f.room;
      same = rw (add-one, take-suc-set out i v lo, take-suc src i (pos 0) ls, f.same, e);
    }

-- a place that is right as it stands needs no store
pub fill_keep : {n m : ℕ} {src out : List ℤ} {i : ℕ} → Filled n m src out i → at out i ≡ at src i → i < n → i < m → Filled n m src out (i + 1)
fill_keep {n} {m} {src} {out} {i} f e hs ho = rw (set-get_or out i (pos 0)) at (fill_more f e hs ho)

-- all the places of the source are passed
pub fill_done : {n m : ℕ} {src out : List ℤ} {i : ℕ} → Filled n m src out i → i ≡ n → take n out ≡ src
fill_done {n} {src = src} f e = rw e at f.same ∙ take_all n src (omega (arith, f.source))

pub fill_whole : {n : ℕ} {src out : List ℤ} {i : ℕ} → Filled n n src out i → i ≡ n → out ≡ src
fill_whole {n} {src} {out} f e = sym (take_all n out (omega (arith, f.room))) ∙ fill_done f e

-- ---- an array that is changed in place: from i on it is as it came
pub record Untouched (xs out : List ℤ) (i : ℕ) : Type 0 where
  pub rest : (j : ℕ) → i ≤ j → at out j ≡ at xs j

pub untouched_none : (xs : List ℤ) → Untouched xs xs 0
untouched_none xs = record { rest = λ j h. refl }

pub untouched_more : {xs out : List ℤ} {i : ℕ} (v : ℤ) → Untouched xs out i → Untouched xs (set out i v) (i + 1)
untouched_more {xs} {out} {i} v u =
    record { rest = λ j h. get_or-set_other out i j v (pos 0) (λ e. past j h e) ∙ u.rest j (omega arith) }
  where
    past : (j : ℕ) → i + 1 ≤ j → j ≡ i → ⊥
    past j h e = omega arith

pub untouched_here : {xs out : List ℤ} {i : ℕ} → Untouched xs out i → at out i ≡ at xs i
untouched_here {i = i} u = u.rest i (omega arith)
