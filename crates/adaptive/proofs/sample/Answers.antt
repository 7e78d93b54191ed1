-- `adaptive::sample` meets its contract: after i turns the sum is that of i turns, and by its size no step clamps where `plain` says so.
use Rattle.std.proofs.Common.{◌≡◌, refl, ap, ◌∙◌, ◌-◌, rules, w16, w32, to_z, of_z}
use Rattle.lists.specs.Lists.{at}
use Rattle.lists.proofs.Signed.{back, got}
use Rattle.lists.proofs.Count.{iter_done}
use Rattle.basicop.specs.Ops.{l_mac, round}
use Rattle.basicop.proofs.Calls.{l_mac_eq}
use Rattle.adaptive.specs.Predict.{interpolated}
use Rattle.adaptive.specs.Inner.{left_of}
use Rattle.basicop.proofs.Unclamped.{unclamped_eq}
use Rattle.adaptive.proofs.Sums.{summed_none, first, second, summed_more}
use Rattle.adaptive.proofs.sample.Goals as goal
use Rattle.adaptive.proofs.sample.Goals.{After-mac-sum}

pub loop-i-init : goal.loop-i-init
loop-i-init c = (search rules, summed_none _ _ _ _ _ refl)

pub mac-sum-requires : goal.mac-sum-requires
mac-sum-requires c q =
    unclamped_eq (back w16 c.mac-arg-1.given) (back w16 c.mac-arg-in-loop-i-1.given) (first _ _ _ _ _ c.requires.quiet.0 c.requires.quiet.1 (search rules) c.loop-i.invariant.1 (search rules) q).plain

-- the sum after the first step
after_first : (c : After-mac-sum) → to_z w32 (of_z w32 c.mac-sum.result) ≡ l_mac (to_z w32 c.loop-i.sum-bits) (at c.args.x.now (c.args.first - c.loop-i.i)) (left_of c.args.taps.now c.loop-i.i)
after_first c = got w32 c.mac-sum.type_inv (c.mac-sum.ensures ∙ l_mac_eq refl (back w16 c.mac-arg-1.given) (back w16 c.mac-arg-in-loop-i-1.given))

pub mac-sum-requires-in-loop-i : goal.mac-sum-requires-in-loop-i
mac-sum-requires-in-loop-i c q =
    let m = c.before.before in
    unclamped_eq (back w16 c.mac-arg-in-loop-i-2-1.given) (back w16 c.mac-arg-in-loop-i-3-1.given) (second _ _ _ _ _ c.requires.quiet.0 c.requires.quiet.1 (search rules) c.loop-i.invariant.1 (search rules) (after_first m) q).plain

pub loop-i-preserved : goal.loop-i-preserved
loop-i-preserved c =
    let m = c.before.before.before in (
      search rules,
      summed_more _ _ _ _ _ c.requires.quiet.0 c.requires.quiet.1 (search rules) c.loop-i.invariant.1 (search rules) (after_first m)
          (got w32 c.mac-sum-in-loop-i.type_inv (c.mac-sum-in-loop-i.ensures ∙ l_mac_eq refl (back w16 c.mac-arg-in-loop-i-2-1.given) (back w16 c.mac-arg-in-loop-i-3-1.given))),
    )

pub returns : goal.returns
unfolding interpolated
returns c = got w16 c.round.type_inv (c.round.ensures ∙ ap round (iter_done c.loop-i.invariant.1.run 10 (search rules)))
