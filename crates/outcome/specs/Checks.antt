-- Checks that are tested in order, and two searches: for the first number outside its range, and for the first that is too close to the one before.
use Rattle.std.specs.Prelude.{◌≡◌, Bool, if◌then◌else◌, not, ◌||◌, ◌==◌, List, [], ◌∷◌, Option, Some, None, Result, Ok, Err, MatchResult, ℕ, suc, nat_lt, ℤ, pos, ◌-ℤ◌}
use Rattle.std.specs.Int.Signed.{lt_z}
use Rattle.outcome.specs.declared.Refusal.{Refusal}
use Rattle.outcome.specs.declared.Refusal.TheVariants.{OutputLength}
use Rattle.outcome.specs.Outcome.{Outcome}

-- a line of a table of refusals: whether its condition is met, and the refusal
pub record Check : Type 0 where
  pub met : Bool
  pub refusal : Refusal

abbrev pub check : Bool → Refusal → Check
check met refusal = record { met = met; refusal = refusal }

-- the check by a search that gives the place of the first fault, and `count` where there is none
abbrev pub place_check : (ℕ → Refusal) → ℕ → ℕ → Check
place_check refusal place count = check (nat_lt place count) (refusal place)

-- the first check that is met turns the call back. Groups of checks are joined by `++`
unfoldable pub first_met : List Check → Outcome
first_met [] = Ok tt
first_met (c ∷ checks) = if c.met then Err c.refusal else first_met checks

-- what a function gives that hands on what its checks come to: where they accept, a value, of which P holds; else their refusal
abbrev pub Checked : {X : Type 0} → Result X Refusal → Outcome → (X → Type 0) → Type 0
Checked result outcome P = MatchResult result (λ x. (outcome ≡ Ok tt) × P x) (λ refusal. outcome ≡ Err refusal)

-- 5: the lent output has not room for the 160 samples of a frame
abbrev pub room_check : ℕ → List Check
room_check room = check (not (room == 160)) OutputLength ∷ []

-- ---- searches
-- what a search found: the place of the first fault, where it is below the count
abbrev pub found : ℕ → ℕ → Option ℕ
found place count = if nat_lt place count then Some place else None

-- ---- numbers with a limit each
-- a number lies in 0..=limit
abbrev pub within : ℤ → ℤ → Bool
within limit number = not (lt_z number (pos 0) || lt_z limit number)

-- the place of the first number outside 0..=its limit, the count where none is
unfoldable pub first_outside : List ℤ → List ℤ → ℕ
first_outside [] limits = 0
first_outside (number ∷ numbers) [] = 0
first_outside (number ∷ numbers) (limit ∷ limits) = if within limit number then suc (first_outside numbers limits) else 0

-- ---- numbers that rise by a gap
-- a number lies at least `gap` above the one before it
abbrev pub apart : ℤ → ℤ → ℤ → Bool
apart gap before number = not (lt_z (number -ℤ before) gap)

-- the place of the first number less than `gap` above the one before it, the count where none is; before the first stands `before`
unfoldable pub first_close : ℤ → ℤ → List ℤ → ℕ
first_close gap before [] = 0
first_close gap before (number ∷ numbers) = if apart gap before number then suc (first_close gap number numbers) else 0
