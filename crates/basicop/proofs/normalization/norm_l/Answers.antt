-- `norm_l` meets its contract: doublings are counted by leading zeros.
use Rattle.std.proofs.Common.{◌≡◌, ◌∙◌, sym, false, ◌-◌, arith, ltb-false, ltb→lt, ℤ, pos, negsuc, nat_abs, ◌<ℤ◌, w16, w32, SFits, to_z, of_z, to_z-of_z}
use Rattle.std.specs.Int.Count.{count_leading_zeros}
use Rattle.std.specs.Int.Signed.{lt_z}
use Rattle.std.proofs.Math.Facts.{to_z_pos}
use Rattle.lists.proofs.Signed.{got}
use Rattle.basicop.specs.Ops.{norm_l}
use Rattle.basicop.proofs.Tests.{negative, less_yes}
use Rattle.basicop.proofs.Ints.{arith_ℤ}
use Rattle.basicop.proofs.Norm.{norm_zero, norm_leading, norm_leading_neg}
use Rattle.basicop.proofs.normalization.norm_l.Goals as goal

-- below 0 the complement of x, above it x: what the count is of
below : (x : ℤ) → x <ℤ pos 0 → SFits w32 x → pos (count_leading_zeros 32 (nat_abs (to_z w32 (4294967295 - of_z w32 x))) - 1) ≡ norm_l x
below (pos n) h f = omega (arith_ℤ, h)
below (negsuc n) h f =
    let e : 4294967295 - of_z w32 (negsuc n) ≡ n = omega (arith, f.sfits) in
    rw (e, to_z_pos w32 f.sfits) (norm_leading_neg n f.sfits)

above : (x : ℤ) → pos 0 <ℤ x → SFits w32 x → pos (count_leading_zeros 32 (nat_abs x) - 1) ≡ norm_l x
above (pos n) h f = norm_leading n (ltb→lt 0 n h.lt) f.sfits
above (negsuc n) h f = absurd h.lt

none : (x : ℤ) → lt_z x (pos 0) ≡ false → lt_z (pos 0) x ≡ false → pos 0 ≡ norm_l x
none (pos n) e g = let z : n ≡ 0 = omega (arith, ltb-false 0 n g) in rw z (sym norm_zero)
none (negsuc n) e g = cc

pub returns-then-x-lt0 : goal.returns-then-x-lt0
returns-then-x-lt0 c = got w16 c.headroom.type_inv (c.headroom.ensures ∙ below c.args.x (negative w32 c.args.x c.ranges.x c.if-x-lt0.true) c.ranges.x)

pub returns-then-x-gt0 : goal.returns-then-x-gt0
returns-then-x-gt0 c =
    let read = to_z-of_z c.ranges.x in
    got w16 c.headroom-then-x-gt0.type_inv (rw read at c.headroom-then-x-gt0.ensures ∙ above c.args.x (less_yes (rw read at c.if-x-gt0.true)) c.ranges.x)

pub returns-else-x-gt0 : goal.returns-else-x-gt0
returns-else-x-gt0 c = none c.args.x (rw (to_z-of_z c.ranges.x) at c.if-x-lt0.false) (rw (to_z-of_z c.ranges.x) at c.if-x-gt0.false)
