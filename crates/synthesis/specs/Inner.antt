-- For inner functions: the weight of a row, and what the first pass says of a sample's whole numbers (Whole.antt).
use Rattle.std.specs.Prelude.{ℕ, ◌≡◌, false, List, ℤ}
use Rattle.lists.specs.Lists.{at}
use Rattle.basicop.specs.Inner.{sizes}
use Rattle.synthesis.specs.Recursion.{some_outside}
use Rattle.synthesis.specs.Whole.{sum, sums}

-- the weight of a row: |a0| + .. + |a10|
abbrev pub weight : List ℤ → ℕ
weight a = sizes (at a) 11

-- s is the sum up to tap k, and no number up to it lies outside
pub record IsSum (a : List ℤ) (x : ℤ) (y : List ℤ) (k : ℕ) (s : ℤ) : Type 0 where
  pub inside : some_outside (sums a x y k) ≡ false
  pub is : s ≡ sum a x y k
