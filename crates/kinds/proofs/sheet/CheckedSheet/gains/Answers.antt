-- `CheckedSheet::gains` meets its contract: an accepted gain index is below 128, an accepted stage below 7, and no gain that goes on is negative.
use Rattle.std.proofs.Common.{◌≡◌, refl, ap, subst, rules, ◌+◌, ◌*◌, List, ℤ, w16, w64, SFits, to_z-of_z}
use Rattle.std.specs.Prelude.{Ok}
use Rattle.lists.specs.Lists.{at}
use Rattle.basicop.proofs.Ints.{arith_ℤ}
use Rattle.basicop.proofs.Range.{cast_asks, cast_gives}
use Rattle.pitch.specs.Lag.{lag_of}
use Rattle.outcome.specs.Outcome.{is_accepted}
use Rattle.outcome.specs.Checks.{first_met}
use Rattle.kinds.specs.declared.kind.CheckedKind.{CheckedKind}
use Rattle.kinds.specs.Sheet.{stage_of}
use Rattle.kinds.specs.Kind.{kind_of}
use Rattle.kinds.specs.Checked.{checked_kind}
use Rattle.kinds.specs.Inner.{gains_with}
use Rattle.kinds.specs.Accepted.{OwnKept}
use Rattle.kinds.proofs.Groups.{own_kept}
use Rattle.kinds.proofs.Sound.{index_found, erased_found, next_kept}
use Rattle.kinds.proofs.sheet.CheckedSheet.gains.Goals as goal

-- what the checks of a kind of its own have shown
own : (k : CheckedKind) (sheet : List ℤ) {to : CheckedKind} → k ≡ to → first_met ((kind_of (checked_kind k)).checks sheet) ≡ Ok tt → OwnKept (checked_kind to) sheet
own k sheet e h = subst (λ (k : CheckedKind). OwnKept (checked_kind k) sheet) e (own_kept (checked_kind k) sheet (ap is_accepted h))

pub overflow_cast-index : goal.overflow_cast-index
overflow_cast-index c =
    let a = c.args.self in
    let i = (own a.kind a.numbers.now c.in-Index.is a.own).1.1.1 c.args.subframe c.requires.place in
    cast_asks w16 w64 (at a.numbers.now (14 + c.args.subframe)) (search rules) i.0 tt

pub decode_gains-decoded-requires : goal.decode_gains-decoded-requires
decode_gains-decoded-requires c =
    let a = c.args.self in
    let z = at a.numbers.now (14 + c.args.subframe) in
    let f : SFits w16 z = search rules in
    let i = (own a.kind a.numbers.now c.in-Index.is a.own).1.1.1 c.args.subframe c.requires.place in
    omega (arith_ℤ, cast_gives w16 z f i.0, i.1)

pub overflow_cast-sheet : goal.overflow_cast-sheet
overflow_cast-sheet c =
    let a = c.args.self in
    cast_asks w16 w64 (stage_of a.numbers.now) (search rules) (own a.kind a.numbers.now c.in-Erased.is a.own).0 tt

pub conceal-requires : goal.conceal-requires
conceal-requires c =
    let a = c.args.self in
    let z = stage_of a.numbers.now in
    let f : SFits w16 z = search rules in
    let s = own a.kind a.numbers.now c.in-Erased.is a.own in
    omega (arith_ℤ, cast_gives w16 z f s.0, s.1)

pub returns-in-Frame : goal.returns-in-Frame
returns-in-Frame c =
    let a = c.args in
    let x = a.self.numbers.now in
    let pitch : SFits w16 (at x (14 + 2 * a.subframe)) = search rules in
    let code : SFits w16 (at x (15 + 2 * a.subframe)) = search rules in
    let value : gains_with c.update_good.result a.memory.gain_decoder ≡ (kind_of (checked_kind a.self.kind)).gains x a.erased a.subframe (lag_of a.lag) a.memory = rw (c.in-Frame.is, c.update_good.ensures.value, to_z-of_z pitch, to_z-of_z code) refl in
    record { value = value; kept = next_kept x a.erased a.subframe (lag_of a.lag) a.memory (checked_kind a.self.kind) (own_kept (checked_kind a.self.kind) x (ap is_accepted a.self.own)) c.requires.place c.requires.kept value }

pub returns-in-Index : goal.returns-in-Index
returns-in-Index c =
    let a = c.args in
    let x = a.self.numbers.now in
    let t = c.in-Index.tables in
    let z = at x (14 + a.subframe) in
    let f : SFits w16 z = search rules in
    let i = (own a.self.kind x c.in-Index.is a.self.own).1.1.1 a.subframe c.requires.place in
    let value : gains_with c.update_good-in-Index.result c.decode_gains-decoded.result.gain_decoder ≡ (kind_of (checked_kind a.self.kind)).gains x a.erased a.subframe (lag_of a.lag) a.memory =
    rw c.in-Index.is
    (index_found x a.erased a.subframe (lag_of a.lag) a.memory t.logs.now t.pows.now (rw c.in-Index.is at c.requires.innovation) c.sharpen-sharpened.ensures (cast_gives w16 z f i.0) c.decode_gains-decoded.ensures c.update_good-in-Index.ensures.value) in
    record { value = value; kept = next_kept x a.erased a.subframe (lag_of a.lag) a.memory (checked_kind a.self.kind) (own_kept (checked_kind a.self.kind) x (ap is_accepted a.self.own)) c.requires.place c.requires.kept value }

pub returns-in-Erased : goal.returns-in-Erased
returns-in-Erased c =
    let a = c.args in
    let x = a.self.numbers.now in
    let z = stage_of x in
    let f : SFits w16 z = search rules in
    let s = own a.self.kind x c.in-Erased.is a.self.own in
    let value : gains_with c.conceal.result c.conceal_energy.result ≡ (kind_of (checked_kind a.self.kind)).gains x a.erased a.subframe (lag_of a.lag) a.memory =
    rw c.in-Erased.is (erased_found x a.erased a.subframe (lag_of a.lag) a.memory (cast_gives w16 z f s.0) c.conceal.ensures.value c.conceal_energy.ensures) in
    record { value = value; kept = next_kept x a.erased a.subframe (lag_of a.lag) a.memory (checked_kind a.self.kind) (own_kept (checked_kind a.self.kind) x (ap is_accepted a.self.own)) c.requires.place c.requires.kept value }
