-- `div_s` meets its contract: the quotient of fifteen turns is one division.
use Rattle.std.proofs.Common.{◌∙◌, ◌*◌, ◌<◌, div-le_self, lt_of_le_of_lt, ltb→lt, ℤ, pos, negsuc, ◌*ℤ◌, ◌≤ℤ◌, ◌<ℤ◌, w16, w32, SFits, of_z, to_z-of_z}
use Rattle.std.specs.Int.Signed.{quot_z}
use Rattle.lists.proofs.Signed.{got}
use Rattle.basicop.proofs.Calls.{rules_ℤ}
use Rattle.basicop.proofs.Division.{div_s_is}
use Rattle.basicop.proofs.arithmetic.div_s.Goals as goal
use Rattle.basicop.proofs.arithmetic.div_s.Goals.{Start}

defined : (a d : ℤ) → pos 0 ≤ℤ a → pos 0 <ℤ d → SFits w32 (a *ℤ pos 32768) → (0 < of_z w32 d) × SFits w32 (quot_z (a *ℤ pos 32768) d)
defined (pos a) (pos d) h p f = (ltb→lt 0 d p.lt, record { sfits = lt_of_le_of_lt (div-le_self (a * 32768) d) f.sfits })
defined (pos a) (negsuc d) h p f = absurd p.lt
defined (negsuc a) d h p f = absurd h.le

pub overflow_cast-n : goal.overflow_cast-n
overflow_cast-n c = search rules_ℤ

pub overflow_mul-n : goal.overflow_mul-n
overflow_mul-n c = search rules_ℤ

pub overflow_cast-d : goal.overflow_cast-d
overflow_cast-d c = search rules_ℤ

-- the product, with what it was made of read back
product : (c : Start) → SFits w32 (c.args.n *ℤ pos 32768)
product c = rw (to_z-of_z (overflow_cast-n c), to_z-of_z c.ranges.n) at (overflow_mul-n c)

pub nonzero_div-n : goal.nonzero_div-n
nonzero_div-n c =
    rw (to_z-of_z (overflow_mul-n c), to_z-of_z (overflow_cast-n c), to_z-of_z (overflow_cast-d c), to_z-of_z c.ranges.n, to_z-of_z c.ranges.d)
    (defined c.args.n c.args.d c.requires.0 c.requires.2 (product c))

pub returns : goal.returns
returns c =
    let s = c.before in
    got w16 c.clamp16.type_inv
    (rw (to_z-of_z (nonzero_div-n s).1, to_z-of_z (overflow_mul-n s), to_z-of_z (overflow_cast-n s), to_z-of_z (overflow_cast-d s), to_z-of_z c.ranges.n, to_z-of_z c.ranges.d) at c.clamp16.ensures ∙ div_s_is c.args.n c.args.d c.requires.0 c.requires.1 c.requires.2)
