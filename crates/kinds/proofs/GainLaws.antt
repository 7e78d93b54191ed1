-- What is promised of the gains of each kind: specs/Laws.antt.
use Rattle.std.proofs.Common.{ℕ, ◌+◌, ◌<◌, ◌≡◌, refl, sym, ◌∙◌, [], ◌∷◌, lit≤, ℤ, pos, w16}
use Rattle.std.specs.Prelude.{Ok}
use Rattle.lists.specs.Lists.{at}
use Rattle.basicop.proofs.Range.{sfits_range}
use Rattle.basicop.proofs.Tests.{no_less}
use Rattle.pitch.specs.Lag.{Lag}
use Rattle.outcome.specs.Checks.{first_met, first_outside}
use Rattle.outcome.proofs.Checks.{accepted_here}
use Rattle.gain.specs.Checks.{table_checks, index_checks}
use Rattle.gain.specs.Call.{decode_checks}
use Rattle.gain.specs.Gain.{decoded_gains}
use Rattle.gain.proofs.Results.{call_accepted}
use Rattle.gain_concealment.specs.Concealment.{good_gains}
use Rattle.gain_concealment.specs.Formed.{GainsFormed}
use Rattle.gain_concealment.specs.Laws.{Kept}
use Rattle.gain_concealment.proofs.Ranges.{concealed_in_range}
use Rattle.gain_concealment.proofs.Words.{concealed_words}
use Rattle.state.proofs.Checks.{in_range}
use Rattle.kinds.specs.declared.GainMemory.{GainMemory}
use Rattle.kinds.specs.Sheet.{stage_of, concealed_lags}
use Rattle.kinds.specs.Kind.{IndexSheet, ErasedSheet, erased_kind}
use Rattle.kinds.specs.Prepass.{kind_step, after_erased, opened_memory, prepared_after}
use Rattle.kinds.specs.Accepted.{In}
use Rattle.kinds.specs.Laws.{OwnGains, IndexCallGains, IndexEnergies, GainsIn, ErasedGains}
use Rattle.kinds.proofs.Groups.{own_kept}
use Rattle.kinds.proofs.Passed.{passed}
use Rattle.kinds.proofs.Steps.{steps_keep}
use Rattle.kinds.proofs.Formed.{Any, any_every}
use Rattle.kinds.proofs.Accepted.{tables_ok}

pub own_gains : OwnGains
unfolding prepared_after good_gains
own_gains energies sheet s e = record { pitch = rw e refl; code = rw e refl }

one_ok : (index : ℤ) → In (pos 0) (pos 127) index → first_met (index_checks 1 (index ∷ [])) ≡ Ok tt
unfolding first_met first_outside
one_ok index r = rw (no_less index (pos 0) r.0, no_less (pos 127) index r.1) refl

pub index_call_gains : IndexCallGains
index_call_gains logs pows sheet s room h k l lag m =
    let o = own_kept (IndexSheet logs pows) sheet (passed (IndexSheet logs pows) sheet s room h).own in
    let index = at sheet (14 + k) in
    let checks : first_met (decode_checks logs pows index) ≡ Ok tt =
    sym (sym (one_ok index (o.1.1.1 k l)) ∙ accepted_here (table_checks logs pows) (index_checks 1 (index ∷ [])) (sym (tables_ok logs pows o.1.0 o.1.1.0))) in
    sym (call_accepted logs pows index _ m.gain_decoder.energies checks)

pub index_energies : IndexEnergies
unfolding prepared_after decoded_gains
index_energies logs pows energies sheet s = refl

-- ---- the gains of an erased frame, from ones of 16 bits that are not negative
record Sound (m : GainMemory) : Type 0 where
  kept : Kept m.concealment
  formed : GainsFormed m.concealment

pub erased_gains : ErasedGains
unfolding prepared_after
erased_gains energies sheet s room w e =
    let k = (in_range s (passed ErasedSheet sheet s room e).state).concealment in
    let c = s.concealment in
    let step = kind_step erased_kind sheet (after_erased c) in
    let lags = concealed_lags 4 c.last_lag in
    let one : (k : ℕ) (lag : Lag) (m : GainMemory) → k < 4 → Any lag → Sound m → GainsIn (step k lag m).inputs × Sound (step k lag m).memory =
    λ k lag m l a h.
    let r = concealed_in_range (stage_of sheet) m.concealment h.kept (sfits_range w16 _ h.formed.past.pitch).1 (sfits_range w16 _ h.formed.past.code).1 in
    (record { pitch = r.pitch; code = r.code }, record { kept = r.next; formed = (concealed_words (stage_of sheet) m.concealment h.formed).next }) in
    (steps_keep step Any GainsIn Sound one 0 lags (opened_memory energies s) (lit≤ tt) (any_every lags) (record { kept = k.gains; formed = w.concealment.gains })).0
