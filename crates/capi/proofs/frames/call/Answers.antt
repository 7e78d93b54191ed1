-- `capi::call`: what does not fit is left; else the call is what its function says.
use Rattle.std.proofs.Common.{rules, length}
use Rattle.kinds.specs.Kind.{kind_of}
use Rattle.kinds.specs.Checked.{lent_kind}
use Rattle.capi.proofs.Calls.{Fit, frame_unfit, frame_given}
use Rattle.capi.proofs.frames.call.Goals as goal

pub returns-in_default : goal.returns-in_default
returns-in_default g c = frame_unfit _ _ _ _ _ _ _ _ (search rules) (search rules) (search rules) (search rules) (λ f. search rules)

pub returns-in_default-as_mut_array : goal.returns-in_default-as_mut_array
returns-in_default-as_mut_array g c = frame_unfit _ _ _ _ _ _ _ _ (search rules) (search rules) (search rules) (search rules) (λ f. search rules)

pub returns-in_default-as_mut_array-2 : goal.returns-in_default-as_mut_array-2
returns-in_default-as_mut_array-2 g c = frame_unfit _ _ _ _ _ _ _ _ (search rules) (search rules) (search rules) (search rules) (λ f. search rules)

pub returns-in_default-as_mut_array-3 : goal.returns-in_default-as_mut_array-3
returns-in_default-as_mut_array-3 g c = frame_unfit _ _ _ _ _ _ _ _ (search rules) (search rules) (search rules) (search rules) (λ f. search rules)

pub returns : goal.returns
returns g c =
    let a = c.args in
    let s = c.in-Some.ensures.cases in
    let r = c.in-Some-as_mut_array.ensures.cases in
    let p = c.in-Some-as_mut_array-2.ensures.cases in
    let e = c.in-Some-as_mut_array-3.ensures.cases in
    let fit : Fit 4 (length a.state.now) (length a.rows.now) (length a.places.now) (length a.energies.now) = record { state_fits = s.long; rows_fit = r.long; places_fit = p.long; energies_fit = e.long } in
    rw (← frame_given (kind_of (lent_kind a.kind)) 4 a.sheet.now a.state.now a.out.now a.rows.now a.places.now a.energies.now fit, ← s.same, ← e.same) c.call_fit.ensures
