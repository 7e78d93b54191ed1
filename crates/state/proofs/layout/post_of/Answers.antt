-- `post_of` meets its contract: each part from where it starts.
use Rattle.std.proofs.Common.{sym, w16, rules, pos, lit<, ◌∙◌}
use Rattle.lists.specs.Lists.{at}
use Rattle.lists.proofs.Parts.{at_cut}
use Rattle.lists.proofs.Signed.{back}
use Rattle.state.specs.Layout.{counts, post_parts, post_of}
use Rattle.state.proofs.layout.post_of.Goals as goal

pub returns : goal.returns
unfolding post_of
returns c =
    let xs = c.args.numbers.now in
    let ns = counts post_parts in
    λ i. record {
      input_history = c.stretch.ensures i;
      synthesis_history = c.stretch-2.ensures i;
      previous_residual = (back w16 {z = at xs 20} (search rules) ∙ sym (at_cut ns xs 2 0 (pos 0) (lit< tt))) i;
      gain = record { previous_gain = (back w16 {z = at xs 21} (search rules) ∙ sym (at_cut ns xs 3 0 (pos 0) (lit< tt))) i };
    }
