-- `conceal_lags` meets its contract: each lag lies in 19..=144 as the one before does.
use Rattle.std.proofs.Common.{◌≡◌, sym, subst, pos, nat_abs, w16, to_z, of_z}
use lib.Signed.{le_z_yes}
use Rattle.basicop.proofs.Ints.{≤ℤ_trans}
use Rattle.basicop.proofs.Range.{cast_gives}
use Rattle.pitch.specs.Lag.{lag_of}
use Rattle.pitch.proofs.Lags.{Span, concealed_span}
use Rattle.kinds.proofs.LagRanges.{lag_in}
use Rattle.kinds.proofs.lags.conceal_lags.Goals as goal

pub invariant_of-result : goal.invariant_of-result
invariant_of-result c =
    let t = c.args.last_lag in
    let h = c.requires in
    let e : pos (nat_abs (to_z w16 (of_z w16 t))) ≡ t = cast_gives w16 t c.ranges.last_lag (≤ℤ_trans (le_z_yes tt) h.0) in
    let a : Span (lag_of c.conceal-a.result) = subst Span (sym c.conceal-a.ensures) (concealed_span _ (rw e h.0) (rw e h.1)) in
    let b : Span (lag_of c.conceal-b.result) = subst Span (sym c.conceal-b.ensures) (concealed_span _ a.from a.to) in
    let d : Span (lag_of c.conceal-c.result) = subst Span (sym c.conceal-c.ensures) (concealed_span _ b.from b.to) in
    let g : Span (lag_of c.conceal-d.result) = subst Span (sym c.conceal-d.ensures) (concealed_span _ d.from d.to) in
    record { first = lag_in _ a; second = lag_in _ b; third = lag_in _ d; fourth = lag_in _ g }
