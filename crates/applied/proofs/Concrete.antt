-- What premises ask of lists and states that are written out: numbers are of 16 bits, and bytes are bytes, by a test.
use Rattle.std.proofs.Common.{ℕ, zero, suc, ◌≡◌, Bool, true, ◌&&◌, List, [], ◌∷◌, ltb, lit<, ℤ, length, w16, SFits, ltb-true}
use lib.Signed.{mag}
use Rattle.lists.specs.Lists.{at}
use Rattle.basicop.specs.Words.{Words}
use Rattle.basicop.proofs.Words.{zero_fits}
use Rattle.std.proofs.lemmas.Bool.{and_parts}
-- the state of 213 numbers of 16 bits is well-formed
pub use Rattle.state.proofs.Taken.{numbers_well_formed}
use Rattle.coding.specs.Bytes.{Bytes}

-- every number is one of 16 bits, as a test
abbrev pub all_fit : List ℤ → Bool
all_fit [] = true
all_fit (x ∷ xs) = ltb (mag x) 32768 && all_fit xs

pub fits_by : (xs : List ℤ) → all_fit xs ≡ true → (i : ℕ) → SFits w16 (at xs i)
fits_by [] e i = zero_fits
fits_by (x ∷ xs) e zero = record { sfits = ltb-true (mag x) 32768 (and_parts (ltb (mag x) 32768) (all_fit xs) e).0 }
fits_by (x ∷ xs) e (suc i) = fits_by xs (and_parts (ltb (mag x) 32768) (all_fit xs) e).1 i

pub words_by : (xs : List ℤ) (n : ℕ) → length xs ≡ n → all_fit xs ≡ true → Words n xs
words_by xs n l e = record { count = l; fit = fits_by xs e }

-- every number is below 256, as a test
abbrev pub all_bytes : List ℕ → Bool
all_bytes [] = true
all_bytes (x ∷ b) = ltb x 256 && all_bytes b

pub bytes_by : (b : List ℕ) → all_bytes b ≡ true → Bytes b
bytes_by [] e i = lit< tt
bytes_by (x ∷ b) e zero = ltb-true x 256 (and_parts (ltb x 256) (all_bytes b) e).0
bytes_by (x ∷ b) e (suc i) = bytes_by b (and_parts (ltb x 256) (all_bytes b) e).1 i
