-- `Row::sample` meets its contract: none of its numbers lies outside where none up to the sum does and the last two do not.
use Rattle.std.proofs.Common.{rules, ◌∙◌, w16, w32, SFits, to_z-of_z}
use Rattle.basicop.specs.Ops.{asr}
use Rattle.basicop.proofs.Shift.{asr_fits, sfits_shr_same}
use Rattle.synthesis.proofs.Passes.{sample_some, sample_fits_all}
use Rattle.synthesis.proofs.row.Row.sample.Goals as goal

pub overflow_cast-result : goal.overflow_cast-result
unfolding asr
overflow_cast-result c =
    let f : SFits w32 c.in_ok-e.e = search rules in
    rw (to_z-of_z f, to_z-of_z (sfits_shr_same w32 c.in_ok-e.e 65536 f)) (asr_fits w32 w16 c.in_ok-e.e 16 f tt)

pub returns-in_err-s : goal.returns-in_err-s
returns-in_err-s c =
    rw (c.from_residual.ensures) (λ e. c.in_err-s.ensures (rw (to_z-of_z c.ranges.x) (sample_fits_all c.args.self.now.coefficients c.args.x c.args.y.now e).0))

pub returns-in_err-e : goal.returns-in_err-e
returns-in_err-e c =
    let f : SFits w32 c.in_ok-s.s = search rules in
    let q = rw (to_z-of_z c.ranges.x) at c.in_ok-s.ensures in
    rw (c.from_residual-in_err-e.ensures) (λ e. c.in_err-e.ensures (rw (to_z-of_z f, q.1) (sample_fits_all c.args.self.now.coefficients c.args.x c.args.y.now e).1))

pub returns : goal.returns
unfolding asr
returns c =
    let f : SFits w32 c.in_ok-s.s = search rules in
    let g : SFits w32 c.in_ok-e.e = search rules in
    let q = rw (to_z-of_z c.ranges.x) at c.in_ok-s.ensures in
    let r = rw (to_z-of_z f) at c.in_ok-e.ensures in
    sample_some c.args.self.now.coefficients c.args.x c.args.y.now q.0 q.1 r.0.0 r.0.1 (to_z-of_z (overflow_cast-result c) ∙ rw (to_z-of_z g, to_z-of_z (sfits_shr_same w32 c.in_ok-e.e 65536 g), r.1))
