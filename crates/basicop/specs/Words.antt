-- What an array of 16-bit numbers holds.
use Rattle.std.specs.Prelude.{◌≡◌, List, ℕ, ℤ, length}
use Rattle.std.specs.Int.{w16}
use Rattle.std.proofs.Common.{SFits}
use Rattle.lists.specs.Lists.{at}

-- n numbers of 16 bits
pub record Words (n : ℕ) (xs : List ℤ) : Type 0 where
  pub count : length xs ≡ n
  pub fit : (i : ℕ) → SFits w16 (at xs i)
