-- The sheets of an input one by one: none where nothing is left, and otherwise the first 364 bytes and the sheets of the rest.
use Rattle.std.proofs.Common.{◌≡◌, refl, arith, List, [], ◌∷◌, ℕ, suc, ◌+◌, ◌-◌, ◌/◌, ◌<◌, length, take, drop, length-drop}
use Rattle.sheets.specs.Sheets.{sheets_of}

-- one sheet more than in the rest
counted : (n : ℕ) → 0 < n → (n + 363) / 364 ≡ suc ((n - 364 + 363) / 364)
counted n h = omega arith

pub sheets_none : (bytes : List ℕ) → length bytes ≡ 0 → sheets_of bytes ≡ []
unfolding sheets_of
sheets_none bytes e = rw e refl

pub sheets_more : (bytes : List ℕ) → 0 < length bytes → sheets_of bytes ≡ take 364 bytes ∷ sheets_of (drop 364 bytes)
unfolding sheets_of
sheets_more bytes h = rw (counted (length bytes) h, length-drop 364 bytes) refl
