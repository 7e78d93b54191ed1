-- What came of an input that is read in turns into lent bytes.
use Rattle.std.proofs.Common.{◌≡◌, ℕ, ◌+◌, ◌≤◌, List, ◌++◌, Option, Some, None, length, take, sym, ap, ◌∙◌, subst, length-take-le}
use borrow.Rule.Slice.PartMut.{put_mid, post_of}
use Rattle.std.specs.Io.KnownBytes.{Keeps, Consumes}
use Rattle.std.proofs.lemmas.List.{take-append-le}
use Rattle.std.proofs.Math.Seq.{take-append-add}

-- what stands at the front of the bytes, and the n bytes that were put after it, are together what stands at the front now
pub front_grows : (at k n : ℕ) (bytes put : List ℕ) → at ≤ length bytes → n ≤ length put
    → take at bytes ++ take n put ≡ take (at + n) (put_mid at k bytes put)
front_grows at k n bytes put h f =
    let rest = put ++ post_of at k bytes in
    let front : take (at + n) (put_mid at k bytes put) ≡ take at bytes ++ take n rest =
    subst (λ (m : ℕ). take (m + n) (put_mid at k bytes put) ≡ take at bytes ++ take n rest) (length-take-le at bytes h) (take-append-add (take at bytes) rest n) in
    sym (front ∙ ap (λ (l : List ℕ). take at bytes ++ l) (take-append-le n put (post_of at k bytes) f))

-- ---- a read that gave nothing, and was tried again
pub kept_consumed : (a b c : Option (List ℕ)) (bs : List ℕ) → Keeps a b → Consumes b c bs → Consumes a c bs
kept_consumed None b c bs k p = tt
kept_consumed (Some xs) None c bs k p = absurd k
kept_consumed (Some xs) (Some ys) None bs k p = absurd p
kept_consumed (Some xs) (Some ys) (Some zs) bs k p = sym k ∙ p
