-- The steps of any input come to the whole report: a step makes the totals of its sheet, and leaves the sheets after it.
use Rattle.std.proofs.Common.{ℕ, zero, suc, ◌<◌, ◌≤◌, ◌≡◌, refl, sym, ap, ◌∙◌, Bool, true, false, List, [], ◌∷◌, ◌++◌, append-nil, arith, eq-eqb, ne_eqb, ltb-true, ltb-false, ltb, length, take, drop, length-take, length-drop, Some, None}
use Rattle.state.specs.declared.State.{State}
use Rattle.outcome.specs.Outcome.{number_of, is_accepted}
use Rattle.record.specs.Record.{read_call}
use Rattle.mr74.specs.Frame.{Trace}
use Rattle.lines.specs.Lines.{state_line}
use Rattle.sheets.specs.declared.Step.{Step}
use Rattle.sheets.specs.Sheets.{step_result, opening_step}
use Rattle.sheets.specs.Rounds.{rounds}
use Rattle.sheets.proofs.Rounds.{rounds-none, rounds-zero, rounds-more}
use Rattle.shift_report.specs.declared.Totals.{Totals}
use Rattle.shift_report.specs.Totals.{totals_of}
use Rattle.shift_report.specs.Report.{sheet_trace, sheet_traces, report_line, report_output}
use Rattle.shift_report.specs.Steps.{plus, together, step_of, program_report, StepTotals, StepsReport}
use Rattle.shift_report.proofs.Plus.{totals_append, plus_zeros}
use Rattle.shift_report.proofs.Traces.{traces_none, traces_more, traces_short}

pub decided : {P : Type 0} (b : Bool) → (b ≡ true → P) → (b ≡ false → P) → P
decided true f g = f refl
decided false f g = g refl

-- ---- a step: a whole sheet, and anything else
module _ (s : State) (bytes : List ℕ) where
  pub step_whole : length bytes ≡ 364 → step_result (totals_of (sheet_trace s bytes ∷ [])) (Some (sheet_trace s bytes).next) ≡ step_of s bytes
  unfolding step_of
  step_whole e = rw (eq-eqb (length bytes) 364 e) refl

  pub step_none : ¬ (length bytes ≡ 364) → step_result (totals_of []) None ≡ step_of s bytes
  unfolding step_of
  step_none e = rw (ne_eqb (length bytes) 364 e) refl

pub step_totals : StepTotals
step_totals ts s sheet e =
    ap (λ (r : Step Totals State). plus (totals_of ts) r.made) (sym (step_whole s sheet e)) ∙ sym (totals_append ts (sheet_trace s sheet ∷ []))

-- ---- the rounds
-- a whole sheet, and then the rest of them; or the end
module _ (k : ℕ) (s : State) (input : List ℕ) (rest : (s : State) → together (rounds step_of k (Some s) (drop 364 input)) ≡ totals_of (sheet_traces k s (drop 364 input))) where
  rounds_whole : 364 ≤ length input → together (rounds step_of (suc k) (Some s) input) ≡ totals_of (sheet_traces (suc k) s input)
  rounds_whole h =
      let t = sheet_trace s (take 364 input) in
      ap together (rounds-more step_of k s input (step_result (totals_of (t ∷ [])) (Some t.next)) (step_whole s (take 364 input) (length-take 364 input ∙ omega (arith, h))))
      ∙ ap (plus (totals_of (t ∷ []))) (rest t.next)
      ∙ sym (totals_append (t ∷ []) (sheet_traces k t.next (drop 364 input)))
      ∙ ap totals_of (sym (traces_more k s input h))

  rounds_short : length input < 364 → together (rounds step_of (suc k) (Some s) input) ≡ totals_of (sheet_traces (suc k) s input)
  rounds_short h =
      ap together (rounds-more step_of k s input (step_result (totals_of []) None) (step_none s (take 364 input) (λ e. omega (arith, length-take 364 input, e, h))))
      ∙ ap (λ (ts : List Totals). plus (totals_of []) (together ts)) (rounds-none step_of k (drop 364 input))
      ∙ plus_zeros (totals_of [])
      ∙ ap totals_of (sym (traces_short (suc k) s input h))

pub together_rounds : (k : ℕ) (s : State) (input : List ℕ) → together (rounds step_of k (Some s) input) ≡ totals_of (sheet_traces k s input)
together_rounds zero s input = ap together (rounds-zero step_of (Some s) input) ∙ ap totals_of (sym (traces_none s input))
together_rounds (suc k) s input =
    let rest : (s : State) → together (rounds step_of k (Some s) (drop 364 input)) ≡ totals_of (sheet_traces k s (drop 364 input)) = λ s. together_rounds k s (drop 364 input) in
    decided (ltb (length input) 364) (λ e. rounds_short k s input rest (ltb-true (length input) 364 e)) (λ e. rounds_whole k s input rest (ltb-false (length input) 364 e))

-- ---- the whole report, where the record is accepted and where it is refused
pub steps_report : StepsReport
unfolding program_report opening_step report_output
steps_report input = go (is_accepted (read_call (take 402 input)).answer.outcome) refl
  where
    go : (t : Bool) → is_accepted (read_call (take 402 input)).answer.outcome ≡ t → program_report input ≡ report_output input
    go true e = rw e (ap report_line (together_rounds 65535 (read_call (take 402 input)).answer.state (drop 402 input)))
    go false e = rw e (append-nil (state_line (number_of (read_call (take 402 input)).answer.outcome)))
