-- What turns back the tables and the indices of gains, 7 and 8: docs/BENCH.md, "Gains from an index".
use Rattle.std.specs.Prelude.{◌≡◌, Bool, not, ◌&&◌, List, [], ◌∷◌, ℕ, ◌+◌, ◌<◌, ◌==◌, ℤ, pos, length, replicate, ◌≤ℤ◌}
use Rattle.lists.specs.Lists.{at}
use Rattle.outcome.specs.declared.Refusal.TheVariants.{Table, GainIndex}
use Rattle.outcome.specs.Checks.{Check, check, place_check, first_outside, first_close}

-- 33 numbers that lie in 0..=32767 and never fall: none lies less than 0 above the one before it. Equal neighbours are fine
unfoldable pub is_table : List ℤ → Bool
is_table numbers =
    length numbers == 33
    && (first_outside numbers (replicate 33 (pos 32767)) == 33 && first_close (pos 0) (pos 0) numbers == 33)

-- 7: a lent table that is none; place 0 for the logarithm's, 1 for the power's
abbrev pub table_checks : List ℤ → List ℤ → List Check
table_checks logs pows = check (not (is_table logs)) (Table 0) ∷ check (not (is_table pows)) (Table 1) ∷ []

-- 8: an index outside 0..=127
abbrev pub index_checks : ℕ → List ℤ → List Check
index_checks count indices = place_check GainIndex (first_outside indices (replicate count (pos 127))) count ∷ []

-- ---- a table without the searches: `check_tables` accepts exactly where both lists are one
pub record TableKept (table : List ℤ) : Type 0 where
  pub count : length table ≡ 33
  pub range : (k : ℕ) → k < 33 → (pos 0 ≤ℤ at table k) × (at table k ≤ℤ pos 32767)
  pub rises : (k : ℕ) → k < 32 → at table k ≤ℤ at table (k + 1)
