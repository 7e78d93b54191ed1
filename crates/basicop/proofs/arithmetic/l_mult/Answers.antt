-- `l_mult` meets its contract: the doubled product fits 64 bits and is clamped once.
use Rattle.std.proofs.Common.{w32}
use Rattle.basicop.specs.Ops.{l_mult}
use Rattle.lists.proofs.Signed.{got}
use Rattle.basicop.proofs.Calls.{rules_ℤ}
use Rattle.basicop.proofs.arithmetic.l_mult.Goals as goal

pub returns : goal.returns
unfolding l_mult
returns c = search (got w32 c.clamp32.type_inv c.clamp32.ensures, rules_ℤ) depth 9
