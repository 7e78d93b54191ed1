-- The first step, where the record is accepted and where it is refused, and the frame call of a sheet's bytes.
use Rattle.std.proofs.Common.{◌≡◌, refl, ap, ◌∙◌, Bool, true, false, cond, Some, None, List, [], ℕ, ℤ, pos, replicate}
use Rattle.state.specs.declared.State.{State}
use Rattle.outcome.specs.Outcome.{number_of, is_accepted}
use Rattle.record.specs.declared.Answer.{Answer}
use Rattle.record.specs.Record.{read_call}
use Rattle.coding.specs.Bytes.{words}
use Rattle.mr74.specs.Frame.{CallResult, frame_call}
use Rattle.lines.specs.Lines.{state_line}
use Rattle.sheets.specs.declared.Step.{Step}
use Rattle.sheets.specs.Sheets.{sheet_call, step_result, opening_step}

module _ (bytes : List ℕ) (a : Answer) (e : a ≡ (read_call bytes).answer) where
  pub opening_accepted : is_accepted a.outcome ≡ true → step_result [] (Some a.state) ≡ opening_step bytes
  unfolding opening_step
  opening_accepted y = rw (← e, y) refl

  pub opening_refused : (line : List ℕ) (number : ℕ) → is_accepted a.outcome ≡ false → number ≡ number_of a.outcome → line ≡ state_line number
      → step_result line None ≡ opening_step bytes
  unfolding opening_step
  opening_refused line number y n l = rw (← e, y, ← n) (ap (λ (x : List ℕ). step_result {C = State} x None) l)

-- an accepted record makes no line
pub opened_silent : (bytes line : List ℕ) (next : State) → step_result line (Some next) ≡ opening_step bytes → line ≡ []
unfolding opening_step
opened_silent bytes line next e = go (is_accepted (read_call bytes).answer.outcome) e
  where
    a : Answer
    a = (read_call bytes).answer

    go : (t : Bool) → step_result line (Some next) ≡ cond t (step_result [] (Some a.state)) (step_result (state_line (number_of a.outcome)) None) → line ≡ []
    go true f = ap (λ (r : Step (List ℕ) State). r.made) f
    go false f =
        let q : Some next ≡ None = ap (λ (r : Step (List ℕ) State). r.next) f in
        cc

pub sheet_called : (bytes : List ℕ) (s : State) (sheet : List ℤ) (k : CallResult) → sheet ≡ words bytes → k ≡ frame_call sheet s (replicate 160 (pos 0)) → k ≡ sheet_call bytes s
unfolding sheet_call
sheet_called bytes s sheet k e f = f ∙ ap (λ (w : List ℤ). frame_call w s (replicate 160 (pos 0))) e
