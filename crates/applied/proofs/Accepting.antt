-- A sheet that its own checks let pass is accepted on every state that the state's checks let pass; and what such a call leaves.
use Rattle.std.proofs.Common.{ℕ, ◌≡◌, refl, sym, ap, ◌∙◌, true, List, map, ℤ, pos, length, replicate, w16, SFits}
use Rattle.std.proofs.lemmas.Simd.{map-map}
use Rattle.std.specs.Prelude.{Ok}
use Rattle.lists.specs.Lists.{at}
use Rattle.basicop.specs.declared.Q14.{Q14}
use Rattle.decoder.specs.Core.{SubframeResult}
use Rattle.outcome.specs.Checks.{first_met}
use Rattle.state.specs.declared.Concealment.{Concealment}
use Rattle.state.specs.declared.State.{State}
use Rattle.state.specs.State.{WellFormed, state_outcome}
use Rattle.kinds.specs.Checks.{length_checks, lsf_checks}
use Rattle.kinds.specs.Kind.{Kind, SheetKind, kind_of, call_outcome}
use Rattle.kinds.specs.Prepass.{kind_step, after_erased, PreparedFrame, prepared_after, prepared}
use Rattle.kinds.proofs.Order.{state_decides}
use Rattle.mr74.specs.Frame.{core_result_of, call_trace}
use Rattle.mr74.specs.Sharpening.{sharpenings}
use Rattle.mr74.proofs.Sharpening.{sharpening_is_core}
use Rattle.calls.specs.Calls.{Call, trace_of, next_state, accepted}
use Rattle.calls.proofs.Calls.{next_accepted, next_well_formed}
use Rattle.applied.specs.Promised.{sharpenings_of}

pub record SheetPasses (kind : Kind) (sheet : List ℤ) : Type 0 where
  pub lengths : first_met (length_checks kind.count (length sheet) 160) ≡ Ok tt
  pub lsfs : first_met (lsf_checks sheet) ≡ Ok tt
  pub own : first_met (kind.checks sheet) ≡ Ok tt

pub accepted_at : (kind : Kind) (sheet : List ℤ) → SheetPasses kind sheet → (s : State) → state_outcome s ≡ Ok tt → call_outcome kind sheet s 160 ≡ Ok tt
unfolding state_outcome
accepted_at kind sheet p s e = state_decides kind sheet s 160 (sym p.lengths) (sym p.lsfs) (sym e) p.own

-- a state that calls go on from
pub record Opens (s : State) : Type 0 where
  pub formed : WellFormed s
  pub passes : state_outcome s ≡ Ok tt

-- what a sheet comes to, of a sharpening and a concealment alone
abbrev pub comes_to : Kind → List ℤ → List ℤ → Q14 → Concealment → PreparedFrame
comes_to kind energies sheet sharpening c =
    prepared_after kind sheet c (record { sharpening = sharpening; gain_decoder = record { energies = energies }; concealment = c.gains })

-- the sharpenings that its subframes leave before the core
abbrev pub left_by : Kind → List ℤ → List ℤ → Q14 → Concealment → List ℤ
left_by kind energies sheet sharpening c =
    map (λ (q : Q14). q.0)
    (sharpenings (kind_step kind sheet (after_erased c)) 0 (kind.lags sheet c.last_lag) (record { sharpening = sharpening; gain_decoder = record { energies = energies }; concealment = c.gains }))

module _ (kind : SheetKind) (energies sheet : List ℤ) (p : SheetPasses (kind_of kind) sheet) (f : (k : ℕ) → SFits w16 (at sheet k)) (s : State) (g : Opens s) where
  abbrev c : Call
  c = record { kind = kind; energies = energies; sheet = sheet; out = replicate 160 (pos 0) }

  pub outcome_is : call_outcome (kind_of kind) sheet s 160 ≡ Ok tt
  outcome_is = accepted_at (kind_of kind) sheet p s g.passes

  pub call_accepted : accepted (trace_of s c) ≡ true
  unfolding call_trace
  call_accepted = rw outcome_is refl

  pub next_opens : Opens (next_state s c)
  next_opens = record { formed = next_well_formed s c g.formed (λ e. f); passes = next_accepted s c g.formed call_accepted }

  pub next_concealment : (next_state s c).concealment ≡ (prepared (kind_of kind) energies sheet s).concealment
  unfolding call_trace
  next_concealment = rw (outcome_is, next_state) refl

  -- what the core leaves after each subframe
  pub sharpenings_are : sharpenings_of (trace_of s c) ≡ left_by (kind_of kind) energies sheet s.core.sharpening s.concealment
  unfolding call_trace
  sharpenings_are =
      let subframes = (core_result_of (prepared (kind_of kind) energies sheet s).inputs s).subframes in
      rw outcome_is (sym (map-map (λ (q : Q14). q.0) (λ (u : SubframeResult). u.next.sharpening) subframes) ∙ ap (map (λ (q : Q14). q.0)) (sharpening_is_core kind energies sheet s).each)

  -- of a state whose concealment is known
  pub conceals : {d : Concealment} → s.concealment ≡ d → (prepared (kind_of kind) energies sheet s).concealment ≡ (comes_to (kind_of kind) energies sheet s.core.sharpening d).concealment
  conceals e = ap (λ (d : Concealment). (comes_to (kind_of kind) energies sheet s.core.sharpening d).concealment) e
