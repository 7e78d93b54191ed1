-- An accepted index call is the frame call of the sheet with the gains so obtained, which is accepted: `IndexIsFrame`.
use Rattle.std.proofs.Common.{ℕ, suc, ◌+◌, ◌*◌, ◌≤◌, ◌<◌, ◌≡◌, refl, sym, ap, ◌∙◌, Bool, true, List, [], ◌∷◌, ◌++◌, arith, lit≤, ℤ, pos, length, ◌≤ℤ◌}
use Rattle.std.specs.Prelude.{Ok}
use Rattle.lists.specs.Lists.{at, Every}
use Rattle.lists.proofs.Entries.{stretch_at}
use Rattle.pitch.specs.Lag.{Lag}
use Rattle.decoder.specs.Inputs.{FrameInputs}
use Rattle.state.specs.declared.Concealment.{Concealment}
use Rattle.state.specs.declared.State.{State}
use Rattle.outcome.specs.Outcome.{is_accepted}
use Rattle.outcome.specs.Checks.{first_met}
use Rattle.outcome.proofs.Checks.{accepted_here, both_accept}
use Rattle.outcome.proofs.Variants.{accepted_ok}
use Rattle.outcome.proofs.Ranges.{never_outside}
use Rattle.gain.specs.Checks.{TableKept, table_checks, index_checks}
use Rattle.gain_concealment.specs.declared.UsedGains.{UsedGains}
use Rattle.gain_concealment.specs.Concealment.{good_gains}
use Rattle.kinds.specs.declared.GainMemory.{GainMemory}
use Rattle.kinds.specs.Sheet.{lags_of, gains_at, gain_indices_of, innovation_at}
use Rattle.kinds.specs.Checks.{length_checks, lsf_checks, pitch_checks, gain_checks}
use Rattle.kinds.specs.Kind.{IndexSheet, index_decoded, frame_kind, index_kind, call_outcome}
use Rattle.kinds.specs.Prepass.{Steps, kind_step, steps, last_lag, after_erased, prepared_after, opened_memory, prepared}
use Rattle.kinds.specs.Accepted.{GainIndices, OwnKept}
use Rattle.kinds.proofs.Groups.{own_kept}
use Rattle.kinds.proofs.Order.{state_decides}
use Rattle.kinds.proofs.Passed.{Passed, passed}
use Rattle.kinds.proofs.Sound.{decoded_kept}
use Rattle.mr74.specs.Frame.{Trace, accepted_trace, call_trace, frame_call, index_call, result_of}
use Rattle.mr74.specs.Indexed.{decoded_pairs, with_gains, without_energies, IndexIsFrame}
use Rattle.mr74.proofs.WithGains.{count_with, gains_with, lsfs_with, pitch_indices_with, innovation_with, lags_with}

-- ---- its subframes, from those that the gains came with: the frame sheet's steps have the same inputs, whatever their energies, and leave the same concealment
module _ (logs pows sheet frame_sheet : List ℤ) (erased : Bool) (innovation : (k : ℕ) → innovation_at 22 frame_sheet k ≡ innovation_at 18 sheet k) where
  abbrev of_index : ℕ → List Lag → GainMemory → Steps
  of_index k ls m = steps (kind_step (index_kind logs pows) sheet erased) k ls m

  abbrev of_frame : ℕ → List Lag → GainMemory → Steps
  of_frame k ls m = steps (kind_step frame_kind frame_sheet erased) k ls m

  same_from : (k : ℕ) (ls : List Lag) (m n : GainMemory) → n.concealment ≡ m.concealment
      → ((j : ℕ) → j < 2 * length ls → at frame_sheet (14 + 2 * k + j) ≡ at (decoded_pairs logs pows sheet erased k ls m) j)
      → ((of_frame k ls n).subframes ≡ (of_index k ls m).subframes) × ((of_frame k ls n).memory.concealment ≡ (of_index k ls m).memory.concealment)
  same_from k [] m n e h = (refl, e)
  same_from k (l ∷ ls) m n e h =
      let gains = (index_decoded logs pows sheet k l m).gains in
      let p : at frame_sheet (14 + 2 * k) ≡ gains.pitch.0 = ap (at frame_sheet) {x = 14 + 2 * k} {y = 14 + 2 * k + 0} (omega arith) ∙ h 0 (omega arith) in
      let c : at frame_sheet (15 + 2 * k) ≡ gains.code.0 = ap (at frame_sheet) {x = 15 + 2 * k} {y = 14 + 2 * k + 1} (omega arith) ∙ h 1 (omega arith) in
      let used : good_gains erased (gains_at frame_sheet k) n.concealment ≡ good_gains erased gains m.concealment = λ i. good_gains erased (record { pitch = record { 0 = p i }; code = record { 0 = c i } }) (e i) in
      let rest = same_from (suc k) ls (kind_step (index_kind logs pows) sheet erased k l m).memory (kind_step frame_kind frame_sheet erased k l n).memory (ap (λ (u : UsedGains). u.next) used)
      (λ j b. ap (at frame_sheet) {x = 14 + 2 * suc k + j} {y = 14 + 2 * k + suc (suc j)} (omega arith) ∙ h (suc (suc j)) (omega (arith, b))) in
      (λ i. record { lag = l; pitch = (used i).gains.pitch.0; code = (used i).gains.code.0; innovation = innovation k i } ∷ rest.0 i, rest.1)

-- ---- no gain is negative, so none is refused
module _ (logs pows sheet : List ℤ) (erased : Bool) (kept : TableKept pows) (indices : GainIndices sheet) where
  pairs_from : (k : ℕ) (ls : List Lag) (m : GainMemory) → k + length ls ≤ 4 → Every (λ (x : ℤ). pos 0 ≤ℤ x) (decoded_pairs logs pows sheet erased k ls m)
  pairs_from k [] m h = tt
  pairs_from k (l ∷ ls) m h =
      let g = decoded_kept logs pows sheet kept indices k l m (omega arith) in
      (g.pitch, (g.code, pairs_from (suc k) ls (kind_step (index_kind logs pows) sheet erased k l m).memory (omega arith)))

-- ---- the two calls
module _ (logs pows energies sheet : List ℤ) (s : State) (out : List ℤ) (h : is_accepted (call_outcome (index_kind logs pows) sheet s (length out)) ≡ true) where
  p : Passed (IndexSheet logs pows) sheet s (length out)
  p = passed (IndexSheet logs pows) sheet s (length out) h

  kept : OwnKept (IndexSheet logs pows) sheet
  kept = own_kept (IndexSheet logs pows) sheet p.own

  abbrev erased : Bool
  erased = after_erased s.concealment

  abbrev gains : List ℤ
  gains = decoded_pairs logs pows sheet erased 0 (lags_of sheet) (opened_memory energies s)

  abbrev frame_sheet : List ℤ
  frame_sheet = with_gains gains sheet

  gain_at : (j : ℕ) → j < 8 → at frame_sheet (14 + j) ≡ at gains j
  gain_at j l = stretch_at frame_sheet 14 8 j l ∙ ap (λ (xs : List ℤ). at xs j) (gains_with gains sheet p.count refl)

  -- the frame sheet says the same inputs and leaves the same concealment
  abbrev run : List Lag → Steps
  run ls = steps (kind_step frame_kind frame_sheet erased) 0 ls (opened_memory [] s)

  same_steps : (run (lags_of sheet)).subframes ≡ (steps (kind_step (index_kind logs pows) sheet erased) 0 (lags_of sheet) (opened_memory energies s)).subframes
      × ((run (lags_of sheet)).memory.concealment ≡ (steps (kind_step (index_kind logs pows) sheet erased) 0 (lags_of sheet) (opened_memory energies s)).memory.concealment)
  same_steps = same_from logs pows sheet frame_sheet erased (innovation_with gains sheet p.count refl) 0 (lags_of sheet) (opened_memory energies s) (opened_memory [] s) refl gain_at

  lags : lags_of frame_sheet ≡ lags_of sheet
  lags = lags_with gains sheet p.count refl

  same_inputs : (prepared frame_kind [] frame_sheet s).inputs ≡ (prepared (index_kind logs pows) energies sheet s).inputs
  unfolding prepared_after
  same_inputs =
      let all = ap (λ (ls : List Lag). (run ls).subframes) lags ∙ same_steps.0 in
      λ i. record { lsfs = lsfs_with gains sheet p.count refl i; subframes = all i }

  same_concealment : (prepared frame_kind [] frame_sheet s).concealment ≡ (prepared (index_kind logs pows) energies sheet s).concealment
  unfolding prepared_after
  same_concealment =
      let all = ap (λ (ls : List Lag). (run ls).memory.concealment) lags ∙ same_steps.1 in
      λ i. record { last_lag = last_lag s.concealment.last_lag (lags i); gains = all i; erased = pos 0 }

  -- each group of its checks accepts
  lengths_ok : Ok tt ≡ first_met (length_checks 182 (length frame_sheet) (length out))
  unfolding first_met
  lengths_ok = rw (count_with gains sheet p.count refl, p.lent) refl

  lsfs_ok : Ok tt ≡ first_met (lsf_checks frame_sheet)
  lsfs_ok = rw (lsfs_with gains sheet p.count refl) (sym (accepted_ok _ p.lsfs))

  pitch_ok : Ok tt ≡ first_met (pitch_checks frame_sheet)
  pitch_ok = rw (pitch_indices_with gains sheet p.count refl) (sym (accepted_ok _ (both_accept (pitch_checks sheet) (table_checks logs pows ++ index_checks 4 (gain_indices_of sheet)) p.own).0))

  gains_ok : Ok tt ≡ first_met (gain_checks frame_sheet)
  unfolding first_met
  gains_ok = rw (gains_with gains sheet p.count refl, never_outside gains (pairs_from logs pows sheet erased kept.1.1.0 kept.1.1.1 0 (lags_of sheet) (opened_memory energies s) (lit≤ tt))) refl

  frame_accepted : call_outcome frame_kind frame_sheet s (length out) ≡ Ok tt
  frame_accepted =
      state_decides frame_kind frame_sheet s (length out) lengths_ok lsfs_ok (sym (accepted_ok _ p.state))
      (sym (gains_ok ∙ accepted_here (pitch_checks frame_sheet) (gain_checks frame_sheet) pitch_ok))

  -- the trace of a frame with no energies, of what its sheet comes to
  abbrev traced : FrameInputs → Concealment → Trace
  traced inputs concealment = accepted_trace (Ok tt) (record { inputs = inputs; concealment = concealment; energies = [] }) s

  index_traced : without_energies (call_trace (index_kind logs pows) energies sheet s out) ≡ traced (prepared (index_kind logs pows) energies sheet s).inputs (prepared (index_kind logs pows) energies sheet s).concealment
  unfolding call_trace
  index_traced = rw (accepted_ok _ h) refl

  frame_traced : call_trace frame_kind [] frame_sheet s out ≡ traced (prepared frame_kind [] frame_sheet s).inputs (prepared frame_kind [] frame_sheet s).concealment
  unfolding call_trace prepared_after
  frame_traced = rw frame_accepted refl

  same_trace : without_energies (call_trace (index_kind logs pows) energies sheet s out) ≡ call_trace frame_kind [] frame_sheet s out
  same_trace = index_traced ∙ sym (frame_traced ∙ (λ i. traced (same_inputs i) (same_concealment i)))

pub index_is_frame : IndexIsFrame
unfolding index_call frame_call
index_is_frame logs pows energies sheet s out h =
    let same = same_trace logs pows energies sheet s out h in
    record {
      accepted = frame_accepted logs pows energies sheet s out h;
      trace = same;
      answer = ap (λ (t : Trace). (result_of t).answer) same;
      lent = ap (λ (t : Trace). (result_of t).lent) same;
    }
