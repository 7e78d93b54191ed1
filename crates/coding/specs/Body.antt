-- The body of a record, in bytes: two for each number of a state; and what a version 1 body has not.
use Rattle.std.specs.Prelude.{List, ◌∷◌, ℕ, ◌*◌, ℤ, pos, replicate}
use Rattle.state.specs.Layout.{state_count}

-- 426
abbrev pub body_length : ℕ
body_length = 2 * state_count

-- the fields from 197 on, of a record that ends before them: last lag 40, the opening lag; zeros in the other new fields
abbrev pub missing : List ℤ
missing = pos 40 ∷ replicate 15 (pos 0)
