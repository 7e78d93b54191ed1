-- When what a call gives is what a record has for it.
use Rattle.std.specs.Prelude.{◌≡◌, if◌then◌else◌, List, ◌∷◌, [], ℕ, nat_lt, ℤ, pos, slice_index, take, drop, replicate, Ok}
use Rattle.lists.specs.Parts.{cut}
use Rattle.lpc.specs.Rows.{row_list}
use Rattle.outcome.specs.Outcome.{Outcome, number_of, place_of}
use Rattle.state.specs.Layout.{numbers_of}
use Rattle.coding.specs.Bytes.{bytes_of, unsigned, words}
use Rattle.recorded.specs.declared.calls.Frame.{Frame}
use Rattle.recorded.specs.declared.calls.Refused.{Refused}
use Rattle.recorded.specs.Words.{places_in}

-- the next two numbers of a record are the number and the place of an outcome, 0 and 0 of an accepted one
pub record IsTold (b : List ℕ) (o : Outcome) : Type 0 where
  pub number : unsigned (slice_index b 0) (slice_index b 1) ≡ number_of o
  pub place : unsigned (slice_index b 2) (slice_index b 3) ≡ place_of o

-- an accepted frame is these samples, places and rows, and a next state of these bytes
pub record IsGiven (samples : List ℤ) (places : List ℕ) (rows : List (List ℤ)) (next : List ℕ) (f : Frame) : Type 0 where
  pub outcome : f.outcome ≡ Ok tt
  pub samples_are : samples ≡ f.samples
  pub places_are : places ≡ f.places
  pub rows_are : rows ≡ row_list f.rows
  pub next_is : bytes_of (numbers_of f.next) ≡ next

-- it is the one that a record goes on with: 160 samples, four places, four rows of eleven, the state's 426 bytes
abbrev pub IsFrame : List ℕ → Frame → Type 0
IsFrame b f =
    IsGiven (words (take 320 b)) (places_in (drop 320 b)) (cut (11 ∷ 11 ∷ 11 ∷ 11 ∷ []) (words (drop 328 b))) (take 426 (drop 416 b)) f

-- a refused frame: no places, no rows, the state that came, and the lent output as it was
pub record IsUntouched (r : Refused) (before : List ℕ) : Type 0 where
  pub places : r.places ≡ replicate 4 40
  pub rows : row_list r.rows ≡ replicate 4 (replicate 11 (pos 0))
  pub next : bytes_of (numbers_of r.next) ≡ before
  pub lent : r.lent ≡ replicate 200 (pos 0x5555)

-- the number of the refusal of a cut record of zeros, of its first n bytes and of its last n: 11 below 8 bytes; then 12, since the tag is zeros,
-- and 15, since the body is short
pub record IsCutRefused (n : ℕ) (front back : Outcome) : Type 0 where
  pub first : number_of front ≡ (if nat_lt n 8 then 11 else 12)
  pub last : number_of back ≡ (if nat_lt n 8 then 11 else 15)
