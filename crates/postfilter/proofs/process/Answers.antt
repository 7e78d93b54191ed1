-- `postfilter::process` meets its contract: after k subframes the frame's first samples and the memory are those of k steps.
use Rattle.std.proofs.Common.{◌<◌, rules, ◌≡◌, ap, ◌∙◌, [], length}
use Rattle.postfilter.proofs.Frames.{row_listed, framing_none, framing_more, framing_done}
use Rattle.postfilter.proofs.process.Goals as goal

pub loop-k-init : goal.loop-k-init
loop-k-init c = framing_none _ _ _ _ (search rules)

pub loop-k-preserved : goal.loop-k-preserved
loop-k-preserved c =
    let rows = c.args.rows in
    let k = c.loop-k.k in
    let h : k < 4 = search rules in
    let m : length c.filter.result.samples ≡ 40 = search rules in
    framing_more c.loop-k.invariant h (row_listed rows k [] c.from.ensures h) c.stretch.ensures c.filter.ensures (ap length c.copy_from_slice.ensures.after ∙ m) c.copy_from_slice.ensures.after

pub returns : goal.returns
returns c = framing_done c.loop-k.invariant (search rules)
