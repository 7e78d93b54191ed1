-- A part of an array that was lent to a call: the array with ys in the place of its m entries from entry k on, `put_mid k m xs ys`.
use Rattle.std.proofs.Common.{ℕ, ◌+◌, ◌-◌, ◌≤◌, ◌≡◌, refl, sym, ap, ap₂, ◌∙◌, List, [], ◌++◌, arith, length, take, drop, length-append, length-drop, length-take-le, take_all}
use Rattle.std.proofs.lemmas.Slice.{take-put_mid}
use borrow.Rule.Slice.PartMut.{put_mid}

module _ {A : Type 0} (k m : ℕ) (xs ys : List A) where
  -- as many entries as before
  pub put_length : length ys ≡ m → k + m ≤ length xs → length (put_mid k m xs ys) ≡ length xs
  put_length l h =
      let t = length-take-le k xs (omega arith) in
      let d : length (drop m (drop k xs)) ≡ length xs - k - m = length-drop m (drop k xs) ∙ rw (length-drop k xs) in
      omega (arith, length-append (take k xs) (ys ++ drop m (drop k xs)), length-append ys (drop m (drop k xs)), t, d, l)

  -- the first k as they were, then those that were put
  pub put_front : length ys ≡ m → k ≤ length xs → take (k + m) (put_mid k m xs ys) ≡ take k xs ++ ys
  put_front l h = take-put_mid k m xs ys (k + m) (rw l) h

-- ---- an array of n entries that is put part by part: its first are those that were put
pub record Laid {A : Type 0} (n : ℕ) (done out : List A) : Type 0 where
  pub room : length out ≡ n
  pub front : take (length done) out ≡ done

module _ {A : Type 0} where
  pub laid_none : (n : ℕ) (out : List A) → length out ≡ n → Laid n [] out
  laid_none n out h = record { room = h; front = refl }

  -- m more from place k on, after the k that stand
  pub laid_more : {n : ℕ} {done out : List A} (k m : ℕ) (last ys : List A) → Laid n done out → length done ≡ k → length ys ≡ m → k + m ≤ n → last ≡ ys → Laid n (done ++ ys) (put_mid k m out last)
  laid_more {n} {done} {out} k m last ys l hd hy h is =
      let ll : length last ≡ m = ap length is ∙ hy in
      let e : length (done ++ ys) ≡ k + m = length-append done ys ∙ rw (hd, hy) in
      record {
        room = put_length k m out last ll (omega (arith, l.room)) ∙ l.room;
        front = rw e (put_front k m out last ll (omega (arith, l.room)) ∙ ap₂ ◌++◌ (rw hd at l.front) is);
      }

  pub laid_done : {n : ℕ} {done out : List A} → Laid n done out → length done ≡ n → out ≡ done
  laid_done {n} {done} {out} l h = sym (take_all (length done) out (omega (arith, h, l.room))) ∙ l.front
