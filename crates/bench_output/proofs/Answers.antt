-- A sheet's line, where its frame call is accepted and where it is refused; and its step, of nothing, of a whole sheet and of some of one.
use Rattle.std.proofs.Common.{◌≡◌, refl, sym, ap, Bool, true, false, List, [], map, ℕ, ◌+◌, cond, eqb, ne_eqb, ℤ, length}
use Rattle.decoder.specs.Subframe.{flag_of}
use Rattle.std.specs.Prelude.{Ok, Err, Some, None}
use Rattle.outcome.specs.declared.Refusal.{Refusal}
use Rattle.outcome.specs.Outcome.{refusal_number, refusal_place}
use Rattle.outcome.proofs.Variants.{never_accepted}
use Rattle.mr74.specs.declared.FrameAnswer.{FrameAnswer}
use Rattle.mr74.specs.Frame.{CallResult, call_result}
use Rattle.lines.specs.Lines.{peak_of, frame_line, refused_line, cut_line}
use Rattle.sheets.specs.declared.Step.{Step}
use Rattle.sheets.specs.Sheets.{sheet_call, step_result}
use Rattle.bench_output.specs.Output.{answer_line}
use Rattle.bench_output.specs.declared.Carried.{Carried}
use Rattle.bench_output.specs.Steps.{carried, sheet_step}

module _ (n : ℕ) (a : FrameAnswer) (xs : List ℤ) (line : List ℕ) where
  pub line_accepted : (flags : List Bool) (peak : ℕ) → a.outcome ≡ Ok tt → flags ≡ map flag_of a.places → peak ≡ peak_of xs → line ≡ frame_line n flags peak → line ≡ answer_line n (call_result a xs)
  unfolding answer_line
  line_accepted flags peak y f e l = rw (y, ← f, ← e) l

  pub line_refused : (number place : ℕ) (refusal : Refusal) → a.outcome ≡ Err refusal → number ≡ refusal_number refusal → place ≡ refusal_place refusal → line ≡ refused_line n number place → line ≡ answer_line n (call_result a xs)
  unfolding answer_line
  line_refused number place refusal y e f l = rw (y, never_accepted refusal, ← e, ← f) l

module _ (c : Carried) (bytes : List ℕ) where
  pub step_none : length bytes ≡ 0 → step_result [] None ≡ sheet_step c bytes
  unfolding sheet_step
  step_none e = rw e refl

  pub step_whole : (line : List ℕ) (k : CallResult) → length bytes ≡ 364 → k ≡ sheet_call bytes c.state → line ≡ answer_line c.number k
      → step_result line (Some (carried (c.number + 1) k.answer.next)) ≡ sheet_step c bytes
  unfolding sheet_step
  step_whole line k e f l = rw (e, ← f, l) refl

  pub step_cut : (line : List ℕ) → ¬ (length bytes ≡ 0) → ¬ (length bytes ≡ 364) → line ≡ cut_line c.number → step_result line None ≡ sheet_step c bytes
  unfolding sheet_step
  step_cut line e f l = rw (ne_eqb (length bytes) 0 e, ne_eqb (length bytes) 364 f, l) refl

-- the sheet after one has the number after its own
pub next_number : (c d : Carried) (bytes : List ℕ) → (sheet_step c bytes).next ≡ Some d → d.number ≡ c.number + 1
unfolding sheet_step
next_number c d bytes e = go (eqb (length bytes) 0) (eqb (length bytes) 364) e
  where
    k : CallResult
    k = sheet_call bytes c.state

    stepped : Bool → Bool → Step (List ℕ) Carried
    stepped empty full = cond empty (step_result [] None) (cond full (step_result (answer_line c.number k) (Some (carried (c.number + 1) k.answer.next))) (step_result (cut_line c.number) None))

    go : (empty full : Bool) → (stepped empty full).next ≡ Some d → d.number ≡ c.number + 1
    go true full e = cc
    go false true e = let same : carried (c.number + 1) k.answer.next ≡ d = cc in sym (ap (λ (x : Carried). x.number) same)
    go false false e = cc
