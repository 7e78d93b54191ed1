-- What the rounds of the loop have printed, and what is still to come, where it is known what the input has left and what the output holds; and the whole.
use Rattle.std.proofs.Common.{◌≡◌, ℕ, suc, List, [], ◌∷◌, ◌++◌, ◌*◌, ◌<◌, ◌≤◌, Option, None, Some, IfSome, length, take, drop, arith, sym, ap, ◌∙◌, subst, refl, append_assoc, append-nil}
use Rattle.std.specs.Io.KnownBytes.{Appends}
use Rattle.std.proofs.KnownBytes.{Appends-nil, Appends-trans}
use Rattle.lists.specs.Parts.{joined}
use Rattle.state.specs.declared.State.{State}
use Rattle.sheets.specs.Sheets.{record_bytes, sheet_bytes, step_result, opening_step}
use Rattle.sheets.specs.Reading.{TakesFirst}
use Rattle.sheets.specs.Rounds.{rounds}
use Rattle.sheets.proofs.Rounds as sheet_rounds
use Rattle.bench_output.specs.declared.Carried.{Carried}
use Rattle.bench_output.specs.Output.{bench_output}
use Rattle.bench_output.specs.Steps.{carried, sheet_step, program_output}
use Rattle.bench_output.proofs.Steps.{steps_output}

joined-push : (made : List (List ℕ)) (line : List ℕ) → joined (made ++ (line ∷ [])) ≡ joined made ++ line
joined-push [] line = append-nil line
joined-push (m ∷ made) line = ap (λ (l : List ℕ). m ++ l) (joined-push made line) ∙ sym (append_assoc m (joined made) line)

-- of what k rounds over the input print, begun with `first`, some was printed, and what j rounds of the rest print, begun with `next`, is to come
abbrev pub Printed : Option (List ℕ) → Option (List ℕ) → Option (List ℕ) → Option (List ℕ) → ℕ → Carried → ℕ → Option Carried → Type 0
Printed input rest old new k first j next = (made : List (List ℕ)) × Appends old new (joined made) × sheet_rounds.ToCome sheet_step input rest k (Some first) made j next

pub printed_none : (input old : Option (List ℕ)) (k : ℕ) (first : Carried) → Printed input input old old k first k (Some first)
printed_none input old k first = ([], Appends-nil old, sheet_rounds.none_over sheet_step input k (Some first))

-- the next sheet was read as far as it came, and what the step on it makes was written; `next` is what the step carries on. `ServesSheet` is this with the
-- state for the next sheet, where there is one, and the number after
abbrev pub ServesStep : Option (List ℕ) → Option (List ℕ) → Option (List ℕ) → Option (List ℕ) → Carried → Option Carried → Type 0
ServesStep input rest old new c next =
    (came line : List ℕ) × TakesFirst input rest sheet_bytes came × Appends old new line × (step_result line next ≡ sheet_step c came)

-- a round
pub printed_more : (input ys zs old mid new : Option (List ℕ)) (k : ℕ) (first : Carried) (i j : ℕ) (c : Carried) (given next : Option Carried) → Printed input ys old mid k first i given
    → given ≡ Some c → ServesStep ys zs mid new c next → i ≡ suc j → Printed input zs old new k first j next
printed_more input ys zs old mid new k first i j c given next (made, wrote, all) e (came, line, took, writes, step) q = (
  made ++ (line ∷ []),
  subst (Appends old new) (sym (joined-push made line)) (Appends-trans old mid new (joined made) line wrote writes),
  sheet_rounds.round_over sheet_step input ys zs k (Some first) made i j c came (step_result line next) (rw e at all) took step q,
)

all_written : (input old new : Option (List ℕ)) (k : ℕ) (first : Carried) (made : List (List ℕ)) → Appends old new (joined made)
    → IfSome input (λ xs. rounds sheet_step k (Some first) xs ≡ made) → IfSome input (λ xs. Appends old new (joined (rounds sheet_step k (Some first) xs)))
all_written None old new k first made w e = tt
all_written (Some xs) old new k first made w e = subst (λ (m : List (List ℕ)). Appends old new (joined m)) (sym e) w

-- nothing is carried on, or no round is left
module _ (input ys old new : Option (List ℕ)) (k : ℕ) (first : Carried) (j : ℕ) (next : Option Carried) where
  pub printed_last : Printed input ys old new k first j next → next ≡ None → IfSome input (λ xs. Appends old new (joined (rounds sheet_step k (Some first) xs)))
  printed_last (made, wrote, all) e = all_written input old new k first made wrote (sheet_rounds.none_left sheet_step input ys k (Some first) made j next all e)

  pub printed_all : Printed input ys old new k first j next → j ≡ 0 → IfSome input (λ xs. Appends old new (joined (rounds sheet_step k (Some first) xs)))
  printed_all (made, wrote, all) e = all_written input old new k first made wrote (sheet_rounds.zero_left sheet_step input ys k (Some first) made j next all e)

-- ---- the whole: the record's step, and the rounds after it
module _ (k : ℕ) (xs came line : List ℕ) (f : came ≡ take record_bytes xs) where
  output_more : (next : State) (ys : List ℕ) → step_result line (Some next) ≡ opening_step came → ys ≡ drop record_bytes xs
      → program_output k xs ≡ line ++ joined (rounds sheet_step k (Some (carried 1 next)) ys)
  unfolding program_output
  output_more next ys e g = rw (← f, ← e, g) refl

  output_alone : step_result line None ≡ opening_step came → program_output k xs ≡ line
  unfolding program_output
  output_alone e = rw (← f, ← e, sheet_rounds.rounds-none sheet_step k (drop record_bytes xs)) (append-nil line)

-- the record is accepted
pub whole_more : (input rest old mid new : Option (List ℕ)) (k n : ℕ) (came line : List ℕ) (next : State) → n ≤ k * sheet_bytes
    → TakesFirst input rest record_bytes came → step_result line (Some next) ≡ opening_step came → Appends old mid line
    → IfSome rest (λ ys. Appends mid new (joined (rounds sheet_step k (Some (carried 1 next)) ys))) → IfSome input (λ xs. length xs < n → Appends old new (bench_output xs))
whole_more None rest old mid new k n came line next h t e a b = tt
whole_more (Some xs) None old mid new k n came line next h t e a b = absurd t
whole_more (Some xs) (Some ys) old mid new k n came line next h t e a b =
    λ (l : length xs < n).
    subst (Appends old new) (sym (output_more k xs came line t.0 next ys e t.1) ∙ steps_output k xs (omega (arith, h, l))) (Appends-trans old mid new line _ a b)

-- the record is refused
pub whole_alone : (input rest old new : Option (List ℕ)) (k n : ℕ) (came line : List ℕ) → n ≤ k * sheet_bytes
    → TakesFirst input rest record_bytes came → step_result line None ≡ opening_step came → Appends old new line
    → IfSome input (λ xs. length xs < n → Appends old new (bench_output xs))
whole_alone None rest old new k n came line h t e a = tt
whole_alone (Some xs) None old new k n came line h t e a = absurd t
whole_alone (Some xs) (Some ys) old new k n came line h t e a =
    λ (l : length xs < n).
    subst (Appends old new) (sym (output_alone k xs came line t.0 e) ∙ steps_output k xs (omega (arith, h, l))) a
