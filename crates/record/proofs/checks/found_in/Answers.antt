-- `found_in` meets its contract: group after group, the first that refuses decides; where none does, the body stands before the trailer.
use Rattle.std.proofs.Common.{ap, sym, ◌∙◌, ℕ, ◌-◌, ◌≤◌, length, arith}
use Rattle.std.proofs.lemmas.Result.{err_from_is_err_and}
use Rattle.outcome.specs.Outcome.{is_accepted}
use Rattle.state.specs.Layout.{state_of}
use Rattle.record.specs.Inner.{trailer_by}
use Rattle.record.proofs.Reader.{record_short, trailer_refused, body_there, body_decides, note_before, numbers_before}
use Rattle.record.proofs.checks.found_in.Goals as goal

pub returns-in_default : goal.returns-in_default
returns-in_default c = record_short c.args.bytes.now c.in_default.ensures.cases

pub returns-in_err-version : goal.returns-in_err-version
returns-in_err-version c =
    let s = c.in-Some.ensures.cases in
    let p = err_from_is_err_and c.from_residual.result c.from_residual.ensures.1 in
    rw (p.1, p.2) (trailer_refused c.args.bytes.now (omega (arith, s.2)) (rw s.1 at c.in_err-version.ensures))

pub returns-in_err-state : goal.returns-in_err-state
returns-in_err-state c =
    let s = c.in-Some.ensures.cases in
    let v = c.in_ok-version.ensures in
    let p = err_from_is_err_and c.from_residual-in_err-state.result c.from_residual-in_err-state.ensures.1 in
    rw (p.1, p.2)
    (sym (body_decides c.args.bytes.now (omega (arith, s.2)) _ s.1 v.0 (trailer_by c.in_ok-version.version) v.1 c.in-Some.before.now s.0) ∙ c.in_err-state.ensures)

pub overflow_sub-note_length : goal.overflow_sub-note_length
overflow_sub-note_length c = omega (arith, body_there _ _ (ap is_accepted c.in_ok-state.ensures.0), c.distance.ensures)

pub returns : goal.returns
returns c =
    let b = c.args.bytes.now in
    let s = c.in-Some.ensures.cases in
    let v = c.in_ok-version.ensures in
    let t = trailer_by c.in_ok-version.version in
    let before = c.in-Some.before.now in
    let h : 8 ≤ length b = omega (arith, s.2) in
    let y = c.in_ok-state.ensures in (
      sym (body_decides b h _ s.1 v.0 t v.1 before s.0) ∙ y.0,
      (y.1 ∙ ap state_of (numbers_before b h _ s.1 v.0 t v.1 before s.0 y.0), ap (λ (d : ℕ). length before - d) c.distance.ensures ∙ note_before b h _ s.1 v.0 t v.1 before s.0),
    )
