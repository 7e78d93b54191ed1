-- What an accepted sheet comes to is usable: its inputs, and the concealment after it.
use Rattle.std.proofs.Common.{ℕ, ◌+◌, ◌≤◌, ◌<◌, ◌≡◌, true, ◌∙◌, Bool, List, [], ◌∷◌, arith, ℤ, pos, length}
use Rattle.lists.specs.Lists.{Every}
use Rattle.pitch.specs.Lag.{Lag}
use Rattle.pitch.proofs.Lags.{Span}
use Rattle.decoder.specs.Inputs.{UsableSubframe, Usable}
use Rattle.outcome.specs.Outcome.{is_accepted}
use Rattle.gain_concealment.specs.Laws.{Kept}
use Rattle.state.specs.declared.State.{State}
use Rattle.state.proofs.Checks.{Concealing, in_range}
use Rattle.kinds.specs.declared.GainMemory.{GainMemory}
use Rattle.kinds.specs.Kind.{SheetKind, kind_of, call_outcome}
use Rattle.kinds.specs.Prepass.{kind_step, last_lag, after_erased, PreparedFrame, opened_memory, prepared_after, prepared}
use Rattle.kinds.specs.Accepted.{In, OwnKept}
use Rattle.kinds.proofs.Groups.{lsfs_accept, own_kept}
use Rattle.kinds.proofs.Passed.{ten_of, passed}
use Rattle.kinds.proofs.Steps.{steps_keep, steps_length}
use Rattle.kinds.proofs.Sound.{used_kept, lags_kept, four_lags, mark_kept}

-- inputs that a frame can be decoded from, and a concealment that the state's checks let pass
pub record UsablePrepared (p : PreparedFrame) : Type 0 where
  pub inputs : Usable p.inputs
  pub concealment : Concealing p.concealment

last_span : (t : ℤ) (lags : List Lag) → In (pos 19) (pos 144) t → Every Span lags → In (pos 19) (pos 144) (last_lag t lags)
last_span t [] h e = h
last_span t (lag ∷ lags) h e = last_span lag.samples lags (e.0.from, e.0.to) e.1

module _ (kind : SheetKind) (sheet : List ℤ) (own : OwnKept kind sheet) where
  one : (erased : Bool) (k : ℕ) (lag : Lag) (m : GainMemory) → k < 4 → Span lag → Kept m.concealment
      → UsableSubframe (kind_step (kind_of kind) sheet erased k lag m).inputs × Kept (kind_step (kind_of kind) sheet erased k lag m).memory.concealment
  one erased k lag m l s q = let u = used_kept kind sheet own erased k lag m l q in (record { from = s.from; to = s.to; pitch = u.gains.pitch }, u.next)

pub usable : (kind : SheetKind) (energies sheet : List ℤ) (s : State) (room : ℕ) → is_accepted (call_outcome (kind_of kind) sheet s room) ≡ true → UsablePrepared (prepared (kind_of kind) energies sheet s)
unfolding prepared_after
usable kind energies sheet s room h =
    let p = passed kind sheet s room h in
    let own = own_kept kind sheet p.own in
    let c = s.concealment in
    let k = (in_range s p.state).concealment in
    let lags = (kind_of kind).lags sheet c.last_lag in
    let step = kind_step (kind_of kind) sheet (after_erased c) in
    let m = opened_memory energies s in
    let spans = lags_kept kind sheet own c.last_lag k.from k.to in
    let four = four_lags kind sheet c.last_lag in
    let long : 0 + length lags ≤ 4 = omega (arith, four) in
    let all = steps_keep step Span UsableSubframe (λ (n : GainMemory). Kept n.concealment) (one kind sheet own (after_erased c)) 0 lags m long spans k.gains in
    let last = last_span c.last_lag lags (k.from, k.to) spans in
    let ten = ten_of kind sheet p.count in
    record {
      inputs = record { ten = ten; lsfs = lsfs_accept sheet ten p.lsfs; four = steps_length step 0 lags m ∙ four; subframes = all.0 };
      concealment = record { gains = all.1; mark = mark_kept kind; from = last.0; to = last.1 };
    }
