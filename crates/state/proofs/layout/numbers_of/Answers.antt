-- `numbers_of` meets its contract: the numbers of the three parts, one after another.
use Rattle.std.proofs.Common.{append-nil, refl, ap, ◌∙◌}
use Rattle.state.specs.Layout.{numbers_of, state_of}
use Rattle.state.proofs.Numbers.{state_of_numbers, fields_placed}
use Rattle.state.proofs.layout.numbers_of.Goals as goal

pub returns-clause-value : goal.returns-clause-value
unfolding numbers_of
returns-clause-value c =
    rw (c.copy_from_slice.ensures.after, c.copy_from_slice-2.ensures.after, c.copy_from_slice-3.ensures.after, c.core_numbers.ensures, c.post_numbers.ensures, c.concealment_numbers.ensures, append-nil) refl

pub returns-clause-fields : goal.returns-clause-fields
returns-clause-fields c = fields_placed c.args.state c.formed.ensures

pub returns-clause-back : goal.returns-clause-back
returns-clause-back c = ap state_of (returns-clause-value c) ∙ state_of_numbers c.args.state c.formed.ensures
