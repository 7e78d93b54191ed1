-- How much of the input was read, where it is known what the input has left.
use Rattle.std.proofs.Common.{◌≡◌, ℕ, ◌+◌, ◌≤◌, List, [], ◌++◌, Option, None, Some, take, arith, sym, ap, ◌∙◌, take-append-drop, length-append, length-take}
use Rattle.std.proofs.KnownBytes.{Consumes-nil, Consumes-trans}
use Rattle.sheets.specs.Reading.{TakesFirst}
use Rattle.shift_report.specs.Serving.{TakesAtMost}

-- nothing yet
pub taken_none : (input : Option (List ℕ)) → TakesAtMost input input 0
taken_none input = ([], Consumes-nil input, omega arith)

pub taken_within : (input rest : Option (List ℕ)) (k n : ℕ) → TakesAtMost input rest k → k ≤ n → TakesAtMost input rest n
taken_within input rest k n (came, c, l) h = (came, c, omega (arith, l, h))

-- and k bytes more
pub taken_more : (input mid rest : Option (List ℕ)) (most k n : ℕ) (came : List ℕ) → TakesAtMost input mid most → TakesFirst mid rest k came → most + k ≤ n → TakesAtMost input rest n
taken_more None mid rest most k n came p t h = ([], tt, omega arith)
taken_more (Some xs) None rest most k n came (before, c, l) t h = absurd c
taken_more (Some xs) (Some ys) None most k n came (before, c, l) t h = absurd t
taken_more (Some xs) (Some ys) (Some zs) most k n came (before, c, l) t h =
    let parts : ys ≡ take k ys ++ zs = sym (take-append-drop k ys) ∙ ap (λ (z : List ℕ). take k ys ++ z) (sym t.1) in
    (before ++ take k ys, Consumes-trans (Some xs) (Some ys) (Some zs) before (take k ys) c parts, omega (arith, length-append before (take k ys), length-take k ys))

-- what was read first, and what then
pub taken_both : (input mid rest : Option (List ℕ)) (k j n : ℕ) → TakesAtMost input mid k → TakesAtMost mid rest j → k + j ≤ n → TakesAtMost input rest n
taken_both input mid rest k j n (first, c, l) (then, d, m) h = (first ++ then, Consumes-trans input mid rest first then c d, omega (arith, length-append first then))
