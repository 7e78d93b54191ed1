-- `postfilter::tilt_of` meets its contract: its test is the definition's, and the correlation is at most the energy, so that the division is in order.
use Rattle.std.proofs.Common.{◌≡◌, ap, ◌∙◌, ℤ, pos, w16, w32, to_z, of_z}
use Rattle.lists.proofs.Signed.{got}
use Rattle.basicop.specs.Ops.{mult, extract_h}
use Rattle.postfilter.specs.Tilt.{r0, r1}
use Rattle.postfilter.proofs.Tilts.{tilt_none, tilt_some, tilt_asks}
use Rattle.postfilter.proofs.tilting.tilt_of.Goals as goal
use Rattle.postfilter.proofs.tilting.tilt_of.Goals.{After-extract_h-r0, After-extract_h-r1, After-mult}

one : (c : After-extract_h-r1) → to_z w16 (of_z w16 c.extract_h-r1.result) ≡ r1 c.args.h
one c = got w16 c.extract_h-r1.type_inv (c.extract_h-r1.ensures ∙ ap extract_h (got w32 c.correlation.type_inv c.correlation.ensures))

zero : (c : After-extract_h-r0) → to_z w16 (of_z w16 c.extract_h-r0.result) ≡ r0 c.args.h
zero c = got w16 c.extract_h-r0.type_inv (c.extract_h-r0.ensures ∙ ap extract_h (got w32 c.squares.type_inv c.squares.ensures))

scaled : (c : After-mult) → to_z w16 (of_z w16 c.mult.result) ≡ mult (r1 c.args.h) (pos 26214)
scaled c = got w16 c.mult.type_inv (c.mult.ensures ∙ ap (λ (z : ℤ). mult z (pos 26214)) (one c.before.before.before.before.before))

pub returns-then-r1-le0 : goal.returns-then-r1-le0
returns-then-r1-le0 c = tilt_none c.args.h (rw (one c.before) at c.if-r1-le0.true)

pub div_s-requires : goal.div_s-requires
div_s-requires c =
    let z = c.before in
    let e = z.before.before.before in
    rw (scaled c, zero z) (tilt_asks c.args.h (rw (one e.before) at c.if-r1-le0.false))

pub returns : goal.returns
returns c =
    let m = c.before in
    let z = m.before in
    let e = z.before.before.before in
    let h = c.args.h in
    got w16 c.div_s.type_inv (rw (scaled m, zero z) at c.div_s.ensures) ∙ tilt_some h (rw (one e.before) at c.if-r1-le0.false)
