-- The answers of the frame calls, put together from what their parts give.
use Rattle.std.proofs.Common.{◌≡◌, refl, sym, ap, ◌∙◌, Bool, true, false, List, [], arith, ℤ, pos, length, replicate}
use Rattle.std.specs.Array.{AllOfLen}
use Rattle.std.specs.Prelude.{Ok, Err}
use Rattle.std.proofs.lemmas.List.{ext_get_or, get_or-replicate}
use Rattle.decoder.specs.declared.CoreOutput.{CoreOutput}
use Rattle.decoder.specs.Core.{core_output}
use Rattle.postfilter.specs.declared.Postfiltered.{Postfiltered}
use Rattle.postfilter.specs.Postfilter.{postfilter_result}
use Rattle.state.specs.declared.State.{State}
use Rattle.outcome.specs.declared.Refusal.{Refusal}
use Rattle.outcome.specs.Outcome.{Outcome, is_accepted}
use Rattle.outcome.proofs.Variants.{never_accepted}
use Rattle.kinds.specs.Kind.{Kind, frame_kind, call_outcome}
use Rattle.kinds.specs.Prepass.{PreparedFrame, prepared_after, prepared}
use Rattle.mr74.specs.declared.EnergiesAnswer.{EnergiesAnswer}
use Rattle.mr74.specs.Frame.{CallResult, call_result, core_result_of, accepted_trace, call_trace, result_of, EnergiesResult, energies_result, energies_result_of, frame_call}
use Rattle.mr74.specs.Inner.{kind_call, refused_answer}

-- a row by default
pub zeros : (row : List ℤ) → AllOfLen (λ (z : ℤ). z ≡ pos 0) row 11 → row ≡ replicate 11 (pos 0)
zeros row d =
    ext_get_or (pos 0) row (replicate 11 (pos 0)) d.long
    (λ i h. d.at i (pos 0) (omega (arith, h, d.long)) ∙ sym (get_or-replicate 11 i (pos 0) (pos 0) (omega (arith, h, d.long))))

pub decoded_are : (p : PreparedFrame) (s : State) {f : CoreOutput} {q : Postfiltered 160} → f ≡ core_output (core_result_of p.inputs s) → q ≡ (postfilter_result s.post f.rows f.samples).output
    → energies_result (record {
      frame = record { outcome = Ok tt; rows = f.rows; places = f.places; next = record { core = f.next; post = q.memory; concealment = p.concealment } };
      gain_decoder = record { energies = p.energies };
    }) q.samples ≡ energies_result_of (accepted_trace (Ok tt) p s)
decoded_are p s ef eq = rw (eq, ef)

-- ---- a call of any kind, of what its checks and its sheet come to
module _ (kind : Kind) (energies sheet : List ℤ) (s : State) (out : List ℤ) where
  pub kind_accepted : {answer : EnergiesAnswer} {samples lent : List ℤ} {p : PreparedFrame} → call_outcome kind sheet s (length out) ≡ Ok tt → p ≡ prepared kind energies sheet s
      → energies_result answer samples ≡ energies_result_of (accepted_trace (Ok tt) p s) → lent ≡ samples
      → energies_result answer lent ≡ kind_call kind energies sheet s out
  unfolding kind_call call_trace
  kind_accepted eo ep ed el = rw (el, eo) (ed ∙ ap (λ (p : PreparedFrame). energies_result_of (accepted_trace (Ok tt) p s)) ep)

  pub kind_refused : {refusal : Refusal} {answer : EnergiesAnswer} → call_outcome kind sheet s (length out) ≡ Err refusal → answer ≡ refused_answer (Err refusal) s (record { energies = energies })
      → energies_result answer out ≡ kind_call kind energies sheet s out
  unfolding kind_call call_trace
  kind_refused {refusal} eo er = rw (er, eo, never_accepted refusal)

-- ---- a frame sheet's call does not go by energies: any may be brought
module _ (energies sheet : List ℤ) (s : State) (out : List ℤ) where
  frame_prepared : (o : Outcome) → result_of (accepted_trace o (prepared frame_kind energies sheet s) s) ≡ result_of (accepted_trace o (prepared frame_kind [] sheet s) s)
  unfolding prepared_after
  frame_prepared o = refl

  abbrev o : Outcome
  o = call_outcome frame_kind sheet s (length out)

  abbrev kind_result : CallResult
  kind_result = let r = kind_call frame_kind energies sheet s out in call_result r.answer.frame r.lent

  pub frame_is : kind_result ≡ frame_call sheet s out
  unfolding kind_call frame_call call_trace
  frame_is = go (is_accepted o) refl
    where
      go : (b : Bool) → is_accepted o ≡ b → kind_result ≡ frame_call sheet s out
      go true e = rw e (frame_prepared o)
      go false e = rw e refl

  pub frame_answer : {answer : EnergiesAnswer} {lent : List ℤ} → energies_result answer lent ≡ kind_call frame_kind energies sheet s out → call_result answer.frame lent ≡ frame_call sheet s out
  frame_answer e = rw (ap (λ (r : EnergiesResult). r.answer) e, ap (λ (r : EnergiesResult). r.lent) e) frame_is
