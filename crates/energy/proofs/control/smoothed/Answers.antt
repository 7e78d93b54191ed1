-- `smoothed` meets its contract: its loop fills the samples in place and counts the steps of the gain.
use Rattle.std.proofs.Common.{suc, add-one, rules, refl, ap₂, ◌∙◌, w16, SFits, to_z-of_z}
use Rattle.lists.specs.Lists.{at}
use Rattle.lists.proofs.Signed.{back, got}
use Rattle.lists.proofs.Entries.{length_tab, at_tab}
use Rattle.lists.proofs.Fill.{fill_none, fill_more, fill_whole, untouched_none, untouched_more, untouched_here}
use Rattle.lists.proofs.Count.{iter_none, iter_more, iter_done}
use Rattle.energy.specs.Gain.{scaled_by}
use Rattle.energy.proofs.control.Controls.{sample_of, controlled_is}
use Rattle.energy.proofs.control.smoothed.Goals as goal

pub loop-sample-init : goal.loop-sample-init
loop-sample-init c = (fill_none (length_tab _ 40) (search rules), (untouched_none c.args.samples, iter_none refl))

pub loop-sample-preserved : goal.loop-sample-preserved
loop-sample-preserved c =
    let r = c.loop-sample.invariant in
    let i = c.loop-sample.sample-index in
    let x = at c.loop-sample.sample-items i in
    let next = iter_more r.1.1 c.smooth-previous.ensures in
    let v = got w16 c.scale.type_inv (c.scale.ensures ∙ ap₂ scaled_by (iter_done next (suc i) (add-one i)) (back w16 {z = x} c.scale-arg-1.given ∙ untouched_here r.1.0) ∙ at_tab (sample_of _ _ c.args.samples) 40 i (search rules)) in
    (fill_more r.0 v (search rules) (search rules), (untouched_more _ r.1.0, next))

pub returns : goal.returns
returns c =
    let r = c.loop-sample.invariant in
    let f : SFits w16 c.loop-sample.previous.0 = search rules in
    controlled_is c.args.goal.0 c.args.gain.0 _ c.args.samples c.loop-sample.sample-items 40 (search rules) (fill_whole r.0 (search rules)) (to_z-of_z f ∙ iter_done r.1.1 40 (search rules))
