-- `l_extract` meets its contract: no step of L_Extract clamps.
use Rattle.std.proofs.Common.{◌≡◌, sym, arith, pos, ◌-ℤ◌, ◌*ℤ◌, w16, w32, to_z, of_z, to_z-of_z}
use Rattle.std.specs.Int.Signed.{shr_z}
use Rattle.lists.proofs.Signed.{got}
use Rattle.basicop.specs.Ops.{asr, mod_z}
use Rattle.basicop.proofs.Calls.{rules_ℤ}
use Rattle.basicop.proofs.Shift.{sfits_shr_same}
use Rattle.basicop.proofs.Split.{low_small, extract_lo, extract_is}
use Rattle.basicop.proofs.oper_32b.l_extract.Goals as goal
use Rattle.basicop.proofs.oper_32b.l_extract.Goals.{After-extract_h-hi}

-- the high half, and the difference that makes the low one
high : (c : After-extract_h-hi) → to_z w16 (of_z w16 c.extract_h-hi.result) ≡ asr c.args.x 16
high c = rw (to_z-of_z c.ranges.x) at (got w16 c.extract_h-hi.type_inv c.extract_h-hi.ensures)

pub overflow_cast-result : goal.overflow_cast-result
overflow_cast-result c = search rules_ℤ

pub overflow_mul-result : goal.overflow_mul-result
overflow_mul-result c = search rules_ℤ

low : (c : After-extract_h-hi) → to_z w32 (of_z w32 (shr_z (to_z w32 (of_z w32 c.args.x)) 2)) -ℤ to_z w32 (of_z w32 (to_z w32 (of_z w32 (to_z w16 (of_z w16 c.extract_h-hi.result))) *ℤ pos 32768)) ≡ pos (mod_z (asr c.args.x 1) 32768)
unfolding asr
low c =
    let f = c.ranges.x in
    rw (to_z-of_z f, to_z-of_z (sfits_shr_same w32 _ 2 f), to_z-of_z (overflow_mul-result c), to_z-of_z (overflow_cast-result c), high c) (extract_lo c.args.x f)

pub overflow_sub-result : goal.overflow_sub-result
overflow_sub-result c = rw (low c) (record { sfits = omega (arith, low_small c.args.x c.ranges.x) })

pub overflow_cast-result-2 : goal.overflow_cast-result-2
overflow_cast-result-2 c = rw (to_z-of_z (overflow_sub-result c), low c) (record { sfits = low_small c.args.x c.ranges.x })

pub returns : goal.returns
returns c = rw (to_z-of_z (overflow_cast-result-2 c), to_z-of_z (overflow_sub-result c), low c, high c) (sym (extract_is c.args.x c.ranges.x))
