-- An accepted call has shown what specs/Accepted.antt says, and such a call is accepted: `AcceptedExactly`.
use Rattle.std.proofs.Common.{ℕ, zero, suc, ◌+◌, ◌<◌, ◌≡◌, refl, sym, ◌∙◌, List, ◌∷◌, ◌++◌, add-one, arith, ℤ, pos, ◌+ℤ◌, length, replicate, get_or-take, ◌≤ℤ◌, eq-eqb}
use Rattle.std.specs.Prelude.{Ok}
use Rattle.std.proofs.lemmas.List.{get_or-replicate}
use Rattle.lists.specs.Lists.{at}
use Rattle.lists.proofs.Entries.{stretch_at, stretch_length}
use Rattle.basicop.proofs.Ints.{arith_ℤ}
use Rattle.basicop.proofs.Tests.{no_less}
use Rattle.outcome.specs.Checks.{first_met, first_outside, first_close}
use Rattle.outcome.proofs.Checks.{accepted_here}
use Rattle.outcome.proofs.Ranges.{none_outside}
use Rattle.outcome.proofs.Gaps.{none_close}
use Rattle.state.specs.State.{state_outcome}
use Rattle.state.proofs.Checks.{in_range, in_range_accepted}
use Rattle.gain.specs.Checks.{TableKept, table_checks, index_checks}
use Rattle.gain.proofs.Kept.{kept_accepted}
use Rattle.kinds.specs.Sheet.{lsfs_of, pitch_indices_of, gains_of, gain_indices_of, stage_of}
use Rattle.kinds.specs.Checks.{length_checks, lsf_checks, pitch_limits, pitch_checks, gain_checks, stage_checks}
use Rattle.kinds.specs.Kind.{SheetKind, FrameSheet, IndexSheet, ErasedSheet, kind_of}
use Rattle.kinds.specs.Accepted.{In, LsfsKept, GapsKept, PitchIndices, GainsKept, GainIndices, OwnKept, AcceptedExactly}
use Rattle.kinds.proofs.Groups.{lsfs_range, gaps_accept, own_kept}
use Rattle.kinds.proofs.Order.{state_decides}
use Rattle.kinds.proofs.Passed.{ten_of, passed}

-- ---- from what is shown, each group accepts
module _ (sheet : List ℤ) where
  lsfs_ok : length (lsfs_of sheet) ≡ 10 → LsfsKept sheet → GapsKept sheet → first_met (lsf_checks sheet) ≡ Ok tt
  unfolding first_met
  lsfs_ok ten r g = rw (outside, close) refl
    where
      outside : first_outside (lsfs_of sheet) (replicate 10 (pos 16384)) ≡ 10
      outside =
          none_outside (lsfs_of sheet) (replicate 10 (pos 16384)) ten
          (λ k l. let b : k < 10 = omega (arith, l, ten) in rw (get_or-take 10 sheet k (pos 0) b, get_or-replicate 10 k (pos 16384) (pos 0) b) (r k b))
          ∙ ten

      apart : (k : ℕ) → k < length (lsfs_of sheet) → (at (pos 0 ∷ lsfs_of sheet) k +ℤ pos 205) ≤ℤ at (lsfs_of sheet) k
      apart zero l = rw (get_or-take 10 sheet 0 (pos 0) (omega (arith, l, ten))) g.first
      apart (suc k) l =
          let b : suc k < 10 = omega (arith, l, ten) in
          let h : k < 10 = omega (arith, b) in
          rw (get_or-take 10 sheet (suc k) (pos 0) b, get_or-take 10 sheet k (pos 0) h) (rw (add-one k) at (g.later k (omega (arith, b))))

      close : first_close (pos 205) (pos 0) (lsfs_of sheet) ≡ 10
      close = none_close (pos 205) (pos 0) (lsfs_of sheet) apart ∙ ten

  pitch_ok : length (pitch_indices_of sheet) ≡ 4 → PitchIndices sheet → first_met (pitch_checks sheet) ≡ Ok tt
  unfolding first_met
  pitch_ok four p = rw (none_outside (pitch_indices_of sheet) pitch_limits four inside ∙ four) refl
    where
      each : (k : ℕ) → k < 4 → In (pos 0) (at pitch_limits k) (at sheet (10 + k))
      each zero l = p.a
      each (suc zero) l = p.b
      each (suc (suc zero)) l = p.c
      each (suc (suc (suc zero))) l = p.d
      each (suc (suc (suc (suc k)))) l = absurd (omega (arith, l))

      inside : (k : ℕ) → k < length (pitch_indices_of sheet) → In (pos 0) (at pitch_limits k) (at (pitch_indices_of sheet) k)
      inside k l = let b : k < 4 = omega (arith, l, four) in rw (← stretch_at sheet 10 4 k b) (each k b)

  gains_ok : length (gains_of sheet) ≡ 8 → GainsKept sheet → first_met (gain_checks sheet) ≡ Ok tt
  unfolding first_met
  gains_ok eight g = rw (none_outside (gains_of sheet) (gains_of sheet) refl inside ∙ eight) refl
    where
      inside : (k : ℕ) → k < length (gains_of sheet) → In (pos 0) (at (gains_of sheet) k) (at (gains_of sheet) k)
      inside k l = let b : k < 8 = omega (arith, l, eight) in (rw (← stretch_at sheet 14 8 k b) (g k b), omega arith_ℤ)

  indices_ok : length (gain_indices_of sheet) ≡ 4 → GainIndices sheet → first_met (index_checks 4 (gain_indices_of sheet)) ≡ Ok tt
  unfolding first_met
  indices_ok four g = rw (none_outside (gain_indices_of sheet) (replicate 4 (pos 127)) four inside ∙ four) refl
    where
      inside : (k : ℕ) → k < length (gain_indices_of sheet) → In (pos 0) (at (replicate 4 (pos 127)) k) (at (gain_indices_of sheet) k)
      inside k l = let b : k < 4 = omega (arith, l, four) in rw (get_or-replicate 4 k (pos 127) (pos 0) b, ← stretch_at sheet 14 4 k b) (g k b)

  stage_ok : In (pos 0) (pos 6) (stage_of sheet) → first_met (stage_checks sheet) ≡ Ok tt
  unfolding first_met
  stage_ok r = rw (no_less (stage_of sheet) (pos 0) r.0, no_less (pos 6) (stage_of sheet) r.1) refl

pub tables_ok : (logs pows : List ℤ) → TableKept logs → TableKept pows → first_met (table_checks logs pows) ≡ Ok tt
unfolding first_met
tables_ok logs pows l p = rw (kept_accepted logs l, kept_accepted pows p) refl

own_ok : (k : SheetKind) (sheet : List ℤ) → length sheet ≡ (kind_of k).count → OwnKept k sheet → first_met ((kind_of k).checks sheet) ≡ Ok tt
own_ok FrameSheet sheet e o =
    sym (sym (gains_ok sheet (stretch_length sheet 14 8 (omega (arith, e))) o.1)
    ∙ accepted_here (pitch_checks sheet) (gain_checks sheet) (sym (pitch_ok sheet (stretch_length sheet 10 4 (omega (arith, e))) o.0)))
own_ok (IndexSheet logs pows) sheet e o =
    sym (sym (indices_ok sheet (stretch_length sheet 14 4 (omega (arith, e))) o.1.1.1)
    ∙ accepted_here (table_checks logs pows) (index_checks 4 (gain_indices_of sheet)) (sym (tables_ok logs pows o.1.0 o.1.1.0))
    ∙ accepted_here (pitch_checks sheet) (table_checks logs pows ++ index_checks 4 (gain_indices_of sheet)) (sym (pitch_ok sheet (stretch_length sheet 10 4 (omega (arith, e))) o.0)))
own_ok ErasedSheet sheet e o = stage_ok sheet o

lengths_ok : (count numbers room : ℕ) → numbers ≡ count → room ≡ 160 → Ok tt ≡ first_met (length_checks count numbers room)
unfolding first_met
lengths_ok count numbers room e r = rw (eq-eqb numbers count e, r) refl

pub accepted_exactly : AcceptedExactly
unfolding state_outcome
accepted_exactly kind sheet s room =
    record {
      shown = λ h.
          let p = passed kind sheet s room h in
          record { count = p.count; lent = p.lent; lsfs = lsfs_range sheet p.lsfs; gaps = gaps_accept sheet p.lsfs; own = own_kept kind sheet p.own; state = in_range s p.state };
      enough = λ k.
          state_decides (kind_of kind) sheet s room (lengths_ok _ _ room k.count k.lent) (sym (lsfs_ok sheet (ten_of kind sheet k.count) k.lsfs k.gaps)) (sym (in_range_accepted s k.state)) (own_ok kind sheet k.count k.own);
    }
