-- `check_mark` meets its contract: the place is that of the search, from field 198 on.
use Rattle.std.proofs.Common.{◌≡◌, ap₂, List, [], ◌∙◌, ℕ, ◌+◌, ℤ, refl, rules, length}
use Rattle.outcome.specs.declared.Refusal.TheVariants.{GainField}
use Rattle.outcome.specs.Checks.{first_outside, found}
use Rattle.outcome.proofs.Checks.{place_met, place_unmet, none_left}
use Rattle.state.proofs.Fields.{tested}
use Rattle.state.proofs.check_mark.Goals as goal

-- the same search
same : {xs ys fields limits : List ℤ} → xs ≡ fields → ys ≡ limits → found (first_outside xs ys) (length xs) ≡ found (first_outside fields limits) (length fields)
same e f = ap₂ (λ (xs ys : List ℤ). found (first_outside xs ys) (length xs)) e f

pub returns-in-Some : goal.returns-in-Some
returns-in-Some c =
    let a = c.args.concealment in
    let f = tested a c.concealment_numbers-numbers.result c.window-fields.result.now c.concealment_numbers-numbers.ensures c.window-fields.ensures (search rules) (search rules) in
    place_met (λ (k : ℕ). GainField (198 + k)) _ _ [] refl (c.in-Some.ensures ∙ same f.0 f.1)

pub returns : goal.returns
returns c =
    let a = c.args.concealment in
    let f = tested a c.concealment_numbers-numbers.result c.window-fields.result.now c.concealment_numbers-numbers.ensures c.window-fields.ensures (search rules) (search rules) in
    none_left ∙ place_unmet (λ (k : ℕ). GainField (198 + k)) _ _ [] refl (c.in_default.ensures ∙ same f.0 f.1)
