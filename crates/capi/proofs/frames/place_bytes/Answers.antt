-- `capi::place_bytes` meets its contract: each place is a byte.
use Rattle.std.proofs.Common.{rules}
use Rattle.capi.proofs.Buffers.{called_at_bytes}
use Rattle.capi.proofs.frames.place_bytes.Goals as goal

pub map-requires : goal.map-requires
map-requires c = (search rules, (search rules, (search rules, called_at_bytes c.args.places c.requires (λ x q r. search rules) (λ x h. search rules))))
