-- What an accepted sheet of any kind leaves is a concealment of 16-bit numbers.
use Rattle.std.proofs.Common.{ℕ, ◌+◌, ◌≤◌, ◌<◌, ◌≡◌, refl, true, Bool, List, [], ◌∷◌, arith, ℤ, length, w16, SFits}
use Rattle.lists.specs.Lists.{at, Every}
use Rattle.basicop.proofs.Ints.{arith_ℤ, sfits_by}
use Rattle.pitch.specs.Lag.{Lag}
use Rattle.outcome.specs.Outcome.{is_accepted}
use Rattle.gain.proofs.Fits.{pitch_fits, code_fits}
use Rattle.gain_concealment.specs.Formed.{GainsFormed}
use Rattle.gain_concealment.proofs.Words.{concealed_words, good_words}
use Rattle.state.specs.declared.State.{State}
use Rattle.state.specs.State.{ConcealmentFormed}
use Rattle.kinds.specs.declared.GainMemory.{GainMemory}
use Rattle.kinds.specs.Sheet.{gains_at, stage_of}
use Rattle.kinds.specs.Kind.{SheetKind, FrameSheet, IndexSheet, ErasedSheet, kind_of, call_outcome, index_decoded}
use Rattle.kinds.specs.Prepass.{kind_step, after_erased, opened_memory, prepared_after, prepared}
use Rattle.kinds.specs.Accepted.{OwnKept}
use Rattle.kinds.proofs.Groups.{own_kept}
use Rattle.kinds.proofs.Passed.{passed}
use Rattle.kinds.proofs.Steps.{steps_keep}
use Rattle.kinds.proofs.Sound.{four_lags}
use Rattle.kinds.proofs.Usable.{usable}

-- the gains that go on, of a sheet of 16-bit numbers where it has gains
next_formed : (kind : SheetKind) (sheet : List ℤ) → OwnKept kind sheet → (kind ≡ FrameSheet → (k : ℕ) → SFits w16 (at sheet k))
    → (erased : Bool) (k : ℕ) (lag : Lag) (m : GainMemory) → k < 4 → GainsFormed m.concealment → GainsFormed ((kind_of kind).gains sheet erased k lag m).used.next
next_formed FrameSheet sheet o h erased k lag m l g = (good_words erased (gains_at sheet k) m.concealment (record { pitch = h refl _; code = h refl _ }) g).next
next_formed (IndexSheet logs pows) sheet o h erased k lag m l g =
    let i = o.1.1.1 k l in
    (good_words erased (index_decoded logs pows sheet k lag m).gains m.concealment (record { pitch = pitch_fits logs pows (at sheet (14 + k)) _ _ i.0 i.1; code = code_fits logs pows (at sheet (14 + k)) _ _ }) g).next
next_formed ErasedSheet sheet o h erased k lag m l g = (concealed_words (stage_of sheet) m.concealment g).next

-- of any lags, and inputs of any kind
abbrev pub Any : {A : Type 0} → A → Type 0
Any a = Unit {0}

pub any_every : {A : Type 0} (xs : List A) → Every Any xs
any_every [] = tt
any_every (x ∷ xs) = (tt, any_every xs)

pub formed : (kind : SheetKind) (energies sheet : List ℤ) (s : State) (room : ℕ) → is_accepted (call_outcome (kind_of kind) sheet s room) ≡ true
    → (kind ≡ FrameSheet → (k : ℕ) → SFits w16 (at sheet k)) → ConcealmentFormed s.concealment → ConcealmentFormed (prepared (kind_of kind) energies sheet s).concealment
unfolding prepared_after
formed kind energies sheet s room h f w =
    let own = own_kept kind sheet (passed kind sheet s room h).own in
    let c = s.concealment in
    let lags = (kind_of kind).lags sheet c.last_lag in
    let step = kind_step (kind_of kind) sheet (after_erased c) in
    let long : 0 + length lags ≤ 4 = omega (arith, four_lags kind sheet c.last_lag) in
    let k = (usable kind energies sheet s room h).concealment in
    record {
      last_lag = sfits_by (omega (arith_ℤ, k.from, k.to));
      gains = (steps_keep step Any Any (λ (m : GainMemory). GainsFormed m.concealment) (λ k lag m l a g. (tt, next_formed kind sheet own f (after_erased c) k lag m l g)) 0 lags (opened_memory energies s) long (any_every lags) w.gains).1;
      erased = sfits_by (omega (arith_ℤ, k.mark.0, k.mark.1));
    }
