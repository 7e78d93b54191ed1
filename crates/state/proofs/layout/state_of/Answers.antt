-- `state_of` meets its contract: each part from where it starts.
use Rattle.std.proofs.Common.{sym, ap, ◌∙◌, lit<}
use Rattle.state.specs.Layout.{counts, state_parts, core_of, post_of, concealment_of, numbers_of, state_of}
use Rattle.state.proofs.Cut.{part_cut}
use Rattle.state.proofs.Numbers.{numbers_of_state}
use Rattle.state.proofs.layout.state_of.Goals as goal

pub returns-clause-value : goal.returns-clause-value
unfolding state_of
returns-clause-value c =
    let xs = c.args.numbers.now in
    λ i. record {
      core = (c.core_of.ensures ∙ ap core_of c.window.ensures) i;
      post = (c.post_of.ensures ∙ ap post_of c.window-2.ensures) i;
      concealment = (c.concealment_of.ensures ∙ ap concealment_of (c.window-3.ensures ∙ sym (part_cut (counts state_parts) xs 2 (lit< tt)))) i;
    }

pub returns-clause-back : goal.returns-clause-back
returns-clause-back c = ap numbers_of (returns-clause-value c) ∙ numbers_of_state c.args.numbers.now c.told-numbers
