-- `lpc::interpolate` meets its contract: the calls are the definition's, for three blends and the new LSPs.
use Rattle.std.proofs.Common.{rules}
use Rattle.lists.proofs.Made.{made_pairwise}
use Rattle.lpc.specs.Rows.{blend0, blend1, blend2, rows_of}
use Rattle.lpc.proofs.interpolate.Goals as goal

pub returns : goal.returns
unfolding rows_of
returns c =
    let old = c.args.previous_lsp in
    let new = c.args.lsp in
    let first = made_pairwise _ _ blend0 old new c.from_fn.ensures.items (search rules) (search rules) (λ i q y h c. search rules) in
    let second = made_pairwise _ _ blend1 old new c.from_fn-2.ensures.items (search rules) (search rules) (λ i q y h c. search rules) in
    let third = made_pairwise _ _ blend2 old new c.from_fn-3.ensures.items (search rules) (search rules) (λ i q y h c. search rules) in
    cc (first, second, third)
