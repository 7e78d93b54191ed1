-- What the rounds have made, and what is still to come, where it is known what the input has left; and the whole.
use Rattle.std.proofs.Common.{ℕ, suc, ◌+◌, ◌≤◌, ◌≡◌, refl, sym, ap, ◌∙◌, List, [], ◌∷◌, ◌++◌, take, drop, Option, None, Some, IfSome, append-nil, arith}
use Rattle.state.specs.declared.State.{State}
use Rattle.sheets.specs.declared.Step.{Step}
use Rattle.sheets.specs.Sheets.{record_bytes, step_result, opening_step}
use Rattle.sheets.specs.Reading.{TakesFirst}
use Rattle.sheets.proofs.Opening.{opened_silent}
use Rattle.sheets.specs.Rounds.{rounds}
use Rattle.sheets.proofs.Rounds as sheet_rounds
use Rattle.shift_report.specs.declared.Totals.{Totals}
use Rattle.shift_report.specs.Totals.{totals_of}
use Rattle.shift_report.specs.Report.{sheet_limit, report_line, report_output}
use Rattle.shift_report.specs.Steps.{plus, together, step_of, program_report, sheets_counted, Bounded}
use Rattle.shift_report.specs.Serving.{ReadsSheet}
use Rattle.shift_report.proofs.Plus.{together-push, plus_count, counts}
use Rattle.shift_report.proofs.Bounds.{bounded_zeros, bounded_plus}
use Rattle.shift_report.proofs.Steps.{steps_report}

-- the sums are those of what the rounds so far made, of at most n sheets; j rounds of the rest are left, begun with `next`
pub record Running (input rest : Option (List ℕ)) (first : State) (sums : Totals) (n j : ℕ) (next : Option State) : Type 0 where
  pub bounded : Bounded sums
  pub counted : sheets_counted sums ≤ n
  pub made : List Totals
  pub added : sums ≡ together made
  pub to_come : sheet_rounds.ToCome step_of input rest 65535 (Some first) made j next

pub running_none : (input : Option (List ℕ)) (first : State) (sums : Totals) → sums ≡ totals_of [] → Running input input first sums 0 65535 (Some first)
running_none input first sums e =
    rw e
    (record { bounded = bounded_zeros; counted = omega (arith, counts []); made = []; added = refl; to_come = sheet_rounds.none_over step_of input 65535 (Some first) })

-- a round
module _ (input ys zs : Option (List ℕ)) (first : State) (sums : Totals) (n i j : ℕ) (given : Option State) (s : State) (r : Step Totals State) where
  pub running_more : Running input ys first sums n i given → given ≡ Some s → ReadsSheet ys zs s r → Bounded r.made → sheets_counted r.made ≤ 1 → i ≡ suc j
      → Running input zs first (plus sums r.made) (n + 1) j r.next
  running_more h e (came, took, step) b c q =
      record {
        bounded = bounded_plus sums r.made h.bounded b;
        counted = omega (arith, plus_count sums r.made, h.counted, c);
        made = h.made ++ (r.made ∷ []);
        added = ap (λ (t : Totals). plus t r.made) h.added ∙ sym (together-push h.made r.made);
        to_come = sheet_rounds.round_over step_of input ys zs 65535 (Some first) h.made i j s came r (rw e at h.to_come) took step q;
      }

-- nothing is carried on, or no round is left
module _ (input ys : Option (List ℕ)) (first : State) (sums : Totals) (n j : ℕ) (next : Option State) (h : Running input ys first sums n j next) where
  finished : IfSome input (λ xs. rounds step_of 65535 (Some first) xs ≡ h.made) → IfSome input (λ xs. sums ≡ together (rounds step_of 65535 (Some first) xs))
  finished f = go input f
    where
      go : (zs : Option (List ℕ)) → IfSome zs (λ xs. rounds step_of 65535 (Some first) xs ≡ h.made) → IfSome zs (λ xs. sums ≡ together (rounds step_of 65535 (Some first) xs))
      go None g = tt
      go (Some xs) g = h.added ∙ ap together (sym g)

  pub running_last : next ≡ None → IfSome input (λ xs. sums ≡ together (rounds step_of 65535 (Some first) xs))
  running_last e = finished (sheet_rounds.none_left step_of input ys 65535 (Some first) h.made j next h.to_come e)

  pub running_all : j ≡ 0 → IfSome input (λ xs. sums ≡ together (rounds step_of 65535 (Some first) xs))
  running_all e = finished (sheet_rounds.zero_left step_of input ys 65535 (Some first) h.made j next h.to_come e)

-- ---- the whole: the record's step, and the rounds after it
module _ (came line : List ℕ) where
  report_more : (next : State) (xs : List ℕ) → came ≡ take record_bytes xs → step_result line (Some next) ≡ opening_step came
      → line ++ report_line (together (rounds step_of sheet_limit (Some next) (drop record_bytes xs))) ≡ program_report xs
  unfolding program_report
  report_more next xs f e = rw (← f, ← e) refl

  report_alone : (xs : List ℕ) → came ≡ take record_bytes xs → step_result line None ≡ opening_step came → line ++ [] ≡ program_report xs
  unfolding program_report
  report_alone xs f e = rw (← f, ← e) refl

  -- the record is refused
  pub whole_alone : (input rest : Option (List ℕ)) → TakesFirst input rest record_bytes came → step_result line None ≡ opening_step came → IfSome input (λ xs. line ≡ report_output xs)
  whole_alone None rest t e = tt
  whole_alone (Some xs) None t e = absurd t
  whole_alone (Some xs) (Some ys) t e = sym (append-nil line) ∙ report_alone xs t.0 e ∙ steps_report xs

  -- the record is accepted: its step makes no line
  pub whole_more : (input rest : Option (List ℕ)) (next : State) (sums : Totals) (told : List ℕ) → TakesFirst input rest record_bytes came → step_result line (Some next) ≡ opening_step came
      → IfSome rest (λ ys. sums ≡ together (rounds step_of sheet_limit (Some next) ys)) → told ≡ report_line sums → IfSome input (λ xs. told ≡ report_output xs)
  whole_more None rest next sums told t e a l = tt
  whole_more (Some xs) None next sums told t e a l = absurd t
  whole_more (Some xs) (Some ys) next sums told t e a l =
      l ∙ ap report_line (a ∙ ap (λ (zs : List ℕ). together (rounds step_of sheet_limit (Some next) zs)) t.1)
      ∙ ap (λ (m : List ℕ). m ++ report_line (together (rounds step_of sheet_limit (Some next) (drop record_bytes xs)))) (sym (opened_silent came line next e))
      ∙ report_more next xs t.0 e ∙ steps_report xs
