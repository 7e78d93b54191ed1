-- `spectral::lsf_to_lsp` meets its contract: each call gives the LSP of its frequency, which lies in the range that it asks for.
use Rattle.std.proofs.Common.{rules}
use Rattle.lists.proofs.Made.{made_map, callable}
use Rattle.lists.proofs.Entries.{every_get}
use Rattle.spectral.proofs.lsf_to_lsp.Goals as goal

pub from_fn-requires : goal.from_fn-requires
from_fn-requires c = (search rules, callable (λ i q c. search rules) (λ i h. let r = every_get _ c.args.frequencies c.requires i (search rules) in search rules))

pub returns : goal.returns
returns c = made_map _ _ _ _ c.from_fn.ensures.items (search rules) (λ i q y h c. search rules)
