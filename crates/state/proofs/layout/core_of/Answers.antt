-- `core_of` meets its contract: each part from where it starts.
use Rattle.std.proofs.Common.{sym, w16, rules, pos, lit<, ◌∙◌}
use Rattle.lists.specs.Lists.{at}
use Rattle.lists.proofs.Parts.{at_cut}
use Rattle.lists.proofs.Signed.{back}
use Rattle.state.specs.Layout.{counts, core_parts, core_of}
use Rattle.state.proofs.Cut.{part_cut}
use Rattle.state.proofs.layout.core_of.Goals as goal

pub returns : goal.returns
unfolding core_of
returns c =
    let xs = c.args.numbers.now in
    let ns = counts core_parts in
    λ i. record {
      lsp = c.stretch.ensures i;
      past = c.stretch-2.ensures i;
      sharpening = record { 0 = (back w16 {z = at xs 164} (search rules) ∙ sym (at_cut ns xs 2 0 (pos 0) (lit< tt))) i };
      history = (c.stretch-3.ensures ∙ sym (part_cut ns xs 3 (lit< tt))) i;
    }
