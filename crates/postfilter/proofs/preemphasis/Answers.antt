-- `postfilter::preemphasis` meets its contract: the first i are emphasised, and `previous` is the residual before the next.
use Rattle.std.proofs.Common.{◌<◌, refl, ◌∙◌, length, add-one, rules, w16, SFits, to_z-of_z}
use Rattle.lists.specs.Lists.{at}
use Rattle.lists.proofs.Signed.{got}
use Rattle.lists.proofs.Fill.{fill_none, fill_more, fill_whole, untouched_none, untouched_more, untouched_here}
use Rattle.postfilter.proofs.Preemphases.{preemphasised_length, preemphasised_at}
use Rattle.postfilter.proofs.preemphasis.Goals as goal

pub loop-r-init : goal.loop-r-init
loop-r-init c =
    (fill_none (preemphasised_length _ _ c.args.residual ∙ search rules) (search rules), (untouched_none c.args.residual, refl))

pub loop-r-preserved : goal.loop-r-preserved
loop-r-preserved c =
    let x = c.args.residual in
    let i = c.loop-r.r-index in
    let r = c.loop-r.invariant in
    let here = untouched_here r.1.0 in
    let u : i < 40 = c.loop-r-test.true in
    let l : i < length x = search rules in
    let f : SFits w16 (at c.loop-r.r-items i) = search rules in
    let v = to_z-of_z f ∙ here in
    let e = got w16 c.emphasised.type_inv (c.emphasised.ensures ∙ rw (v, r.1.1) (preemphasised_at _ _ x i l)) in
    (fill_more r.0 e u u, (untouched_more _ r.1.0, v ∙ rw (add-one i)))

pub returns : goal.returns
returns c = rw (to_z-of_z c.ranges.carried) at (fill_whole c.loop-r.invariant.0 (search rules))
