-- Calls that each check of the frame order turns back, and the places of refusals. The theorems are `frame_order`, `places`, `field_places_lem` and
-- `gap_places` in proofs/Refusals.antt: each outcome is computed from the definition. `refusals_applied` takes some of them out again, and applies
-- `AcceptedExactly` (kinds/specs/Accepted.antt) to frame sheets.
use Rattle.std.specs.Prelude.{◌≡◌, true, ℕ, ◌-◌, List, [], ◌∷◌, ◌++◌, map, ℤ, pos, ◌+ℤ◌, ◌-ℤ◌, replicate, set, ◌≤ℤ◌}
use Rattle.lists.specs.Lists.{minus, at}
use Rattle.outcome.specs.Outcome.{number_of, place_of, is_accepted}
use Rattle.state.specs.declared.State.{State}
use Rattle.state.specs.Layout.{state_of}
use Rattle.kinds.specs.Kind.{frame_kind, call_outcome}
use Rattle.applied.specs.Examples.{silent_numbers}

-- ---- number and place
pub record Refusal : Type 0 where
  pub number : ℕ
  pub place : ℕ

abbrev pub refused : ℕ → ℕ → Refusal
refused number place = record { number = number; place = place }

-- of a sheet, a state as 213 numbers, and an output of `room` samples
abbrev pub refusal : List ℤ → List ℤ → ℕ → Refusal
refusal sheet numbers room =
    let o = call_outcome frame_kind sheet (state_of numbers) room in
    refused (number_of o) (place_of o)

-- n zeros, and then -1 up to m numbers
abbrev pub zeros_then : ℕ → ℕ → List ℤ
zeros_then n m = replicate n (pos 0) ++ replicate (m - n) (minus 1)

-- the two rows of LSFs that lie closest: each 205 above the one before, from 205 on and up to 16384
abbrev pub lowest : List ℤ
lowest = pos 205 ∷ pos 410 ∷ pos 615 ∷ pos 820 ∷ pos 1025 ∷ pos 1230 ∷ pos 1435 ∷ pos 1640 ∷ pos 1845 ∷ pos 2050 ∷ []

abbrev pub highest : List ℤ
highest = pos 14539 ∷ pos 14744 ∷ pos 14949 ∷ pos 15154 ∷ pos 15359 ∷ pos 15564 ∷ pos 15769 ∷ pos 15974 ∷ pos 16179 ∷ pos 16384 ∷ []

-- each call meets its check and all those after it in the frame order 1, 5, 2, 6, 3, 4, 16 to 19; the last meets none
unfoldable pub ordered : List Refusal
ordered =
    refusal (zeros_then 0 181) (zeros_then 0 213) 159
    ∷ refusal (zeros_then 0 182) (zeros_then 0 213) 159
    ∷ refusal (zeros_then 0 182) (zeros_then 0 213) 160
    ∷ refusal (zeros_then 10 182) (zeros_then 0 213) 160
    ∷ refusal (lowest ++ zeros_then 0 172) (zeros_then 0 213) 160
    ∷ refusal (lowest ++ zeros_then 4 172) (zeros_then 0 213) 160
    ∷ refusal (lowest ++ zeros_then 12 172) (zeros_then 0 213) 160
    ∷ refusal (lowest ++ zeros_then 12 172) (zeros_then 165 213) 160
    ∷ refusal (lowest ++ zeros_then 12 172) (zeros_then 197 213) 160
    ∷ refusal (lowest ++ zeros_then 12 172) (zeros_then 213 213) 160
    ∷ refusal (lowest ++ zeros_then 12 172) silent_numbers 160
    ∷ []

abbrev pub FrameOrder : Type 0
FrameOrder =
    ordered
    ≡ refused 1 0 ∷ refused 5 0 ∷ refused 2 0 ∷ refused 6 0 ∷ refused 3 0 ∷ refused 4 0 ∷ refused 16 0 ∷ refused 17 0
    ∷ refused 18 198 ∷ refused 19 197 ∷ refused 0 0 ∷ []

-- the first number past its range: LSF 9 (LSF 1 breaks the gap); the indices 255, 31, 255, 32; gain 7
unfoldable pub placed : List Refusal
placed =
    refusal (replicate 9 (pos 16384) ++ (pos 16385 ∷ replicate 172 (pos 0))) silent_numbers 160
    ∷ refusal (lowest ++ (pos 255 ∷ pos 31 ∷ pos 255 ∷ pos 32 ∷ replicate 168 (pos 0))) silent_numbers 160
    ∷ refusal (lowest ++ zeros_then 11 172) silent_numbers 160
    ∷ []

abbrev pub Places : Type 0
Places = placed ≡ refused 2 9 ∷ refused 3 3 ∷ refused 4 7 ∷ []

-- the state's fields: the last of the five code gains, the last good code gain, the mark; the last lag below and above its range; and what is accepted
abbrev pub fields_with : ℤ → ℤ → ℤ → ℤ → List ℤ
fields_with lag fifth good mark = replicate 197 (pos 0) ++ (lag ∷ (replicate 9 (pos 0) ++ (fifth ∷ pos 0 ∷ pos 0 ∷ pos 0 ∷ good ∷ mark ∷ [])))

unfoldable pub field_places : List Refusal
field_places =
    map (λ (numbers : List ℤ). refusal (lowest ++ zeros_then 172 172) numbers 160)
    (fields_with (pos 145) (minus 1) (minus 1) (pos 2)
    ∷ fields_with (pos 145) (pos 0) (minus 1) (pos 2)
    ∷ fields_with (pos 145) (pos 32767) (pos 32767) (pos 2)
    ∷ fields_with (pos 145) (pos 0) (pos 0) (minus 1)
    ∷ fields_with (pos 145) (pos 0) (pos 0) (pos 1)
    ∷ fields_with (pos 18) (pos 0) (pos 0) (pos 0)
    ∷ fields_with (pos 144) (pos 32767) (pos 32767) (pos 1)
    ∷ fields_with (pos 19) (pos 0) (pos 0) (pos 0)
    ∷ [])

abbrev pub FieldPlaces : Type 0
FieldPlaces =
    field_places
    ≡ refused 18 207 ∷ refused 18 211 ∷ refused 18 212 ∷ refused 18 212 ∷ refused 19 197 ∷ refused 19 197 ∷ refused 0 0 ∷ refused 0 0 ∷ []

-- the upper row, which is accepted; LSF k of the lower row lowered by 1, so that it lies 204 above the one before, for each k
unfoldable pub close : List Refusal
close =
    refusal (highest ++ zeros_then 172 172) silent_numbers 160
    ∷ map (λ (k : ℕ). refusal (set lowest k (at lowest k -ℤ pos 1) ++ zeros_then 172 172) silent_numbers 160) (0 ∷ 1 ∷ 2 ∷ 3 ∷ 4 ∷ 5 ∷ 6 ∷ 7 ∷ 8 ∷ 9 ∷ [])

abbrev pub GapPlaces : Type 0
GapPlaces = close ≡ refused 0 0 ∷ map (refused 6) (0 ∷ 1 ∷ 2 ∷ 3 ∷ 4 ∷ 5 ∷ 6 ∷ 7 ∷ 8 ∷ 9 ∷ [])

-- ---- as equations of their own
pub record RefusalsApplied : Type 0 where
  -- 5 before 2 and all after it; 6 before 3; the check of the sheet before that of the state; the place
  pub room : number_of (call_outcome frame_kind (zeros_then 0 182) (state_of (zeros_then 0 213)) 159) ≡ 5
  pub gap : number_of (call_outcome frame_kind (zeros_then 10 182) (state_of (zeros_then 0 213)) 160) ≡ 6
  pub sheet : number_of (call_outcome frame_kind (lowest ++ zeros_then 4 172) (state_of (zeros_then 0 213)) 160) ≡ 4
  pub place : place_of (call_outcome frame_kind (lowest ++ zeros_then 11 172) (state_of silent_numbers) 160) ≡ 7
  pub gap_place : place_of (call_outcome frame_kind (set lowest 9 (pos 2049) ++ zeros_then 172 172) (state_of silent_numbers) 160) ≡ 9
  -- AcceptedExactly: of a sheet that begins with these three LSFs, and of the last two LSFs of any
  pub first :
      (x y z : ℤ) (rest : List ℤ) (s : State)
      → is_accepted (call_outcome frame_kind (x ∷ y ∷ z ∷ rest) s 160) ≡ true
      → (pos 205 ≤ℤ x) × ((x +ℤ pos 205) ≤ℤ y) × ((y +ℤ pos 205) ≤ℤ z)
  pub last : (sheet : List ℤ) (s : State) → is_accepted (call_outcome frame_kind sheet s 160) ≡ true → (at sheet 8 +ℤ pos 205) ≤ℤ at sheet 9
