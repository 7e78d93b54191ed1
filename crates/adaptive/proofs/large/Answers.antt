-- `adaptive::large` meets its contract: the range's two tests are the definition's.
use Rattle.std.proofs.Common.{◌≡◌, refl, ap, ap₂, ◌∙◌, Bool, true, false, cond, not, ◌&&◌, ◌||◌, ◌-◌, ℤ, pos, ◌<ℤ◌, to_z-of_z, is_le, Less, Equal, Greater}
use Rattle.std.specs.Int.Signed.{lt_z}
use Rattle.lists.specs.Lists.{minus}
use Rattle.basicop.proofs.Ints.{arith_ℤ}
use Rattle.basicop.proofs.Tests.{less_yes}
use Rattle.adaptive.specs.Inner.{limit, large}
use Rattle.adaptive.proofs.large.Goals as goal

-- the order of two numbers tells whether the one is at most the other
at_most : (a b : ℤ) → is_le (cond (lt_z a b) Less (cond (lt_z b a) Greater Equal)) ≡ not (lt_z b a)
at_most a b = go (lt_z a b) (lt_z b a) refl refl
  where
    go : (s t : Bool) → lt_z a b ≡ s → lt_z b a ≡ t → is_le (cond s Less (cond t Greater Equal)) ≡ not t
    go true true e f = let l : a <ℤ b = less_yes e in let g : b <ℤ a = less_yes f in absurd (omega arith_ℤ)
    go true false e f = refl
    go false true e f = refl
    go false false e f = refl

either : (s t : Bool) → not (not s && not t) ≡ (s || t)
either true t = refl
either false true = refl
either false false = refl

pub returns : goal.returns
unfolding large
returns c =
    let low = minus limit in
    let high = pos (limit - 1) in
    let x = c.args.x in
    let r = c.new.ensures in
    let inside = rw (r.start, r.end, r.exhausted, to_z-of_z c.ranges.x) at c.contains.ensures.value in
    ap not (inside ∙ ap₂ ◌&&◌ (at_most low x) (at_most x high)) ∙ either (lt_z x low) (lt_z high x)
