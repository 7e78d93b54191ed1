-- `squares` meets its contract: the sum is the exact one, which is held to 32 bits once.
use Rattle.std.proofs.Common.{arith, rules, ◌≡◌, ap, ◌∙◌, ℕ, ◌<◌, ◌*◌, ℤ, pos, nat_abs, length, w16, w32, w64, SFits}
use Rattle.std.proofs.Math.Facts.{to_z_pos}
use Rattle.std.proofs.lemmas.Iterator.{YieldsList-from_slice, YieldsList-from_map}
use Rattle.std.proofs.lemmas.Iterator.Consumers.{YieldsList-at, sum_by_from_yields_List}
use Rattle.basicop.specs.Ops.{clamp}
use Rattle.lists.specs.Lists.{at}
use Rattle.lists.proofs.Signed.{got}
use Rattle.energy.proofs.Sums.{exact, exact_most, squares_held}
use Rattle.energy.proofs.sum.squares.Goals as goal
use Rattle.energy.proofs.sum.squares.Goals.{After-sum-sum}

exact_sum : (c : After-sum-sum) → c.sum-sum.result ≡ exact c.args.samples.now
exact_sum c =
    let xs = c.args.samples.now in
    sum_by_from_yields_List (λ (x : ℤ). 2 * (nat_abs x * nat_abs x)) xs c.map.result _ c.sum-sum.ensures.ran
    (YieldsList-from_map _ _ (YieldsList-at c.map.ensures.source (YieldsList-from_slice xs cc)) c.map.ensures.closure (λ x r q k. search rules))

most : (c : After-sum-sum) → c.sum-sum.result < 9223372036854775808
most c =
    let xs = c.args.samples.now in
    let each : (i : ℕ) → i < length xs → SFits w16 (at xs i) = λ i h. search rules in
    omega (arith, exact_sum c, exact_most xs (λ i h. (each i h).sfits), c.requires)

pub overflow_cast-sum : goal.overflow_cast-sum
overflow_cast-sum c = record { sfits = most c }

pub returns : goal.returns
returns c =
    got w32 c.clamp32.type_inv (c.clamp32.ensures ∙ ap (clamp w32) (to_z_pos w64 (most c.before) ∙ ap pos (exact_sum c.before)) ∙ squares_held c.args.samples.now)
