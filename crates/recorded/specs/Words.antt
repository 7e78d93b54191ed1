-- Numbers as a record has them, and what reading one says.
use Rattle.std.specs.Prelude.{◌≡◌, List, [], ◌∷◌, ℕ, ◌<◌, ℤ, pos, ◌+ℤ◌, ◌*ℤ◌, slice_index, length, drop, Option, MatchOption}
use Rattle.coding.specs.Bytes.{signed16, unsigned}

-- four places as a record has them
abbrev pub places_in : List ℕ → List ℕ
places_in b =
    unsigned (slice_index b 0) (slice_index b 1)
    ∷ unsigned (slice_index b 2) (slice_index b 3)
    ∷ unsigned (slice_index b 4) (slice_index b 5)
    ∷ unsigned (slice_index b 6) (slice_index b 7)
    ∷ []

-- a number of 32 bits: the low sixteen, then the high ones, which are signed
abbrev pub long_of : List ℕ → ℤ
long_of b = signed16 (unsigned (slice_index b 2) (slice_index b 3)) *ℤ pos 65536 +ℤ pos (unsigned (slice_index b 0) (slice_index b 1))

-- r is of the next n bytes: P holds of it, and the bytes after them are left; or there are fewer
abbrev pub Reads : {A : Type 0} → ℕ → (A → Type 0) → List ℕ → List ℕ → Option A → Type 0
Reads n P before after r = MatchOption r (length before < n) (λ x. P x × (after ≡ drop n before))
