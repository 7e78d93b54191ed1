-- `every_second` meets its contract: entry k is the LSP at o + 2 k.
use Rattle.std.proofs.Common.{◌+◌, ◌*◌, rules, ◌≡◌, refl, ◌∙◌}
use Rattle.lists.specs.Lists.{at}
use Rattle.lists.proofs.Made.{made}
use Rattle.lpc.specs.Rows.{every_second}
use Rattle.lpc.proofs.Polynomials.{every_second_at}
use Rattle.lpc.proofs.every_second.Goals as goal

pub returns : goal.returns
returns c =
    let o = c.args.offset in
    let lsp = c.args.lsp in
    made _ _ (every_second o lsp) c.from_fn.ensures.items refl (λ i q y h c.
    let s : (q ≡ _) × (y ≡ at lsp (o + 2 * i)) = search rules in
    (s.0, s.1 ∙ every_second_at lsp o i (search rules)))
