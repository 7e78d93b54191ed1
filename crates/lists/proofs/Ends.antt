-- A loop that fills an array from both ends: it agrees with the wanted list in the first i places, and from place j on.
use Rattle.std.proofs.Common.{ℕ, suc, ◌+◌, ◌≤◌, ◌<◌, ◌≡◌, sym, ap₂, ◌∙◌, List, ◌++◌, arith, length, set, drop, length-set, take-append-drop, drop_of_length-le, drop-set-lt, drop-cons, get_or-set_same, lt-length-set, ℤ, pos}
use Rattle.std.proofs.Math.Seq.{take-set-le}
use Rattle.lists.specs.Lists.{at}
use Rattle.lists.proofs.Fill.{Filled, fill_more}

pub record Ends (n : ℕ) (src out : List ℤ) (i j : ℕ) : Type 0 where
  pub front : Filled n n src out i
  pub back : drop j out ≡ drop j src

pub ends_none : {n : ℕ} {src out : List ℤ} {i : ℕ} → Filled n n src out i → Ends n src out i n
ends_none {n} {src} {out} f =
    record {
      front = f;
      back = drop_of_length-le out {i = n} (omega (arith, f.room)) ∙ sym (drop_of_length-le src {i = n} (omega (arith, f.source)));
    }

-- a store at i, and one before j
pub ends_front : {n : ℕ} {src out : List ℤ} {i j : ℕ} {v : ℤ} → Ends n src out i j → v ≡ at src i → i < j → j ≤ n → Ends n src (set out i v) (i + 1) j
ends_front {out = out} {i = i} {j = j} {v = v} e p h l =
    record {
      front = fill_more e.front p (omega arith) (omega arith);
      back = drop-set-lt j out i v h ∙ e.back;
    }

pub ends_back : {n : ℕ} {src out : List ℤ} {i j : ℕ} {v : ℤ} (m : ℕ) → Ends n src out i j → v ≡ at src m → j ≡ suc m → i ≤ m → j ≤ n → Ends n src (set out m v) i m
ends_back {n} {src} {out} {i} {j} {v} m e p k h l =
    let lo : m < length out = omega (arith, e.front.room) in
    let ls : m < length src = omega (arith, e.front.source) in
    record {
      front = record {
        source = e.front.source;
        room = length-set out m v ∙ e.front.room;
        same = take-set-le i out m v h ∙ e.front.same;
      };
      back =
          drop-cons (set out m v) m (pos 0) (lt-length-set out m v lo)
          ∙ rw (get_or-set_same out m v (pos 0) lo, drop-set-lt (suc m) out m v (omega arith), p, rw k at e.back)
          (sym (drop-cons src m (pos 0) ls));
    }

-- the ends have met
pub ends_done : {n : ℕ} {src out : List ℤ} {i j : ℕ} → Ends n src out i j → i ≡ j → out ≡ src
ends_done {src = src} {out = out} {j = j} e p =
    sym (take-append-drop j out) ∙ ap₂ ◌++◌ (rw p at e.front.same) e.back ∙ take-append-drop j src
