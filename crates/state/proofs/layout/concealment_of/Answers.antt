-- `concealment_of` meets its contract: each part from where it starts.
use Rattle.std.proofs.Common.{sym, ap, w16, rules, pos, lit<, ◌∙◌}
use Rattle.lists.specs.Lists.{at}
use Rattle.lists.proofs.Parts.{at_cut}
use Rattle.lists.proofs.Signed.{back}
use Rattle.state.specs.Layout.{counts, concealment_parts, pair_from, concealment_of}
use Rattle.state.proofs.Cut.{part_cut}
use Rattle.state.proofs.layout.concealment_of.Goals as goal

pub returns : goal.returns
unfolding concealment_of
returns c =
    let xs = c.args.numbers.now in
    let ns = counts concealment_parts in
    λ i. record {
      last_lag = (back w16 {z = at xs 0} (search rules) ∙ sym (at_cut ns xs 0 0 (pos 0) (lit< tt))) i;
      gains = record {
        pitch_history = c.stretch.ensures i;
        code_history = (c.stretch-2.ensures ∙ sym (part_cut ns xs 2 (lit< tt))) i;
        past = (c.pair_at.ensures ∙ ap pair_from (sym (part_cut ns xs 3 (lit< tt)))) i;
        last_good = (c.pair_at-2.ensures ∙ ap pair_from (sym (part_cut ns xs 4 (lit< tt)))) i;
      };
      erased = (back w16 {z = at xs 15} (search rules) ∙ sym (at_cut ns xs 5 0 (pos 0) (lit< tt))) i;
    }
