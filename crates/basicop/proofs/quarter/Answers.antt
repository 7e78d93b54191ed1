-- `basicop::quarter` meets its contract: what is quartered, and what is left, quartered, is all, quartered.
use Rattle.std.proofs.Common.{◌≡◌, ap, ◌∙◌, rules, arith, ℕ, ◌+◌, ◌<◌, List, ◌++◌, ℤ, pos, length, set, take, drop, w16}
use Rattle.std.proofs.lemmas.List.{append_assoc, take_more_set, drop_more, drop-set-lt}
use Rattle.lists.specs.Lists.{at}
use Rattle.lists.proofs.Signed.{back, got}
use Rattle.basicop.specs.Ops.{asr, quartered}
use Rattle.basicop.proofs.quarter.Goals as goal

one_more : (xs : List ℤ) (i : ℕ) (v : ℤ) → i < length xs → v ≡ asr (at xs i) 2 → take (i + 1) (set xs i v) ++ quartered (drop (i + 1) (set xs i v)) ≡ take i xs ++ quartered (drop i xs)
one_more xs i v h e = rw (take_more_set xs i v h, drop-set-lt (i + 1) xs i v (omega arith), drop_more xs i (pos 0) h, e, append_assoc)

pub loop-sample-preserved : goal.loop-sample-preserved
loop-sample-preserved c =
    let l = c.loop-sample in
    let sample = back w16 {z = at l.sample-items l.sample-index} (search rules) in
    one_more l.sample-items l.sample-index _ (search rules) (got w16 c.shr.type_inv (c.shr.ensures ∙ ap (λ (x : ℤ). asr x 2) sample)) ∙ l.invariant
