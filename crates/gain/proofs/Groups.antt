-- The checks of tables and of indices: what they have shown where they accept, and the places of their refusals.
use Rattle.std.proofs.Common.{◌≡◌, refl, subst, true, List, [], ◌∷◌, ℕ, ◌≤◌, ◌<◌, arith, ltb-false, ℤ, pos, negsuc, replicate, ◌≤ℤ◌}
use borrow.Author.Tests.{not-false}
use lib.ListN.{get_or-replicate}
use Rattle.std.specs.Prelude.{Ok}
use Rattle.lists.specs.Lists.{at}
use Rattle.basicop.proofs.Ints.{arith_ℤ}
use Rattle.outcome.specs.declared.Refusal.TheVariants.{GainIndex}
use Rattle.outcome.specs.Outcome.{is_accepted}
use Rattle.outcome.specs.Checks.{first_met, first_outside}
use Rattle.outcome.proofs.Checks.{both_accept, none_met, Placed, placed_append, found_placed}
use Rattle.outcome.proofs.Ranges.{in_ranges}
use Rattle.gain.specs.Checks.{is_table, table_checks, index_checks}
use Rattle.gain.specs.Call.{decode_checks}

-- ---- numbers that have one limit
pub in_limit : (count : ℕ) (limit : ℤ) (numbers : List ℤ) → count ≤ first_outside numbers (replicate count limit) → (k : ℕ) → k < count → (pos 0 ≤ℤ at numbers k) × (at numbers k ≤ℤ limit)
in_limit count limit numbers n k h =
    let r = in_ranges numbers (replicate count limit) k (omega (arith, n, h)) in
    (r.0, subst (λ (l : ℤ). at numbers k ≤ℤ l) (get_or-replicate count k limit (pos 0) h) r.1)

-- ---- what a group has shown
pub index_accept : (count : ℕ) (indices : List ℤ) → is_accepted (first_met (index_checks count indices)) ≡ true → (k : ℕ) → k < count → (pos 0 ≤ℤ at indices k) × (at indices k ≤ℤ pos 127)
index_accept count indices h = in_limit count (pos 127) indices (ltb-false _ count (none_met (index_checks count indices) h).0)

-- the index of a call, as a number from 0 on
pub decode_index : (logs pows : List ℤ) (index : ℤ) → first_met (decode_checks logs pows index) ≡ Ok tt → (n : ℕ) × (index ≡ pos n) × (n < 128)
decode_index logs pows index e = go index (index_accept 1 (index ∷ []) (both_accept (table_checks logs pows) (index_checks 1 (index ∷ [])) (rw e)).1 0 (omega arith))
  where
    go : (z : ℤ) → (pos 0 ≤ℤ z) × (z ≤ℤ pos 127) → (n : ℕ) × (z ≡ pos n) × (n < 128)
    go (pos n) h = (n, refl, omega (arith_ℤ, h.1))
    go (negsuc n) h = absurd h.0.le

pub tables_accept : (logs pows : List ℤ) → is_accepted (first_met (table_checks logs pows)) ≡ true → (is_table logs ≡ true) × (is_table pows ≡ true)
tables_accept logs pows h =
    let u = none_met (table_checks logs pows) h in
    (not-false (is_table logs) u.0, not-false (is_table pows) u.1.0)

-- ---- places
pub tables_placed : (logs pows : List ℤ) → Placed (table_checks logs pows)
tables_placed logs pows = (λ m. omega arith, (λ m. omega arith, tt))

pub indices_placed : (count : ℕ) (indices : List ℤ) → count ≤ 256 → Placed (index_checks count indices)
indices_placed count indices l = (found_placed GainIndex _ count (λ k h. omega arith), tt)

pub decode_placed : (logs pows : List ℤ) (index : ℤ) → Placed (decode_checks logs pows index)
decode_placed logs pows index = placed_append (table_checks logs pows) (index_checks 1 (index ∷ [])) (tables_placed logs pows) (indices_placed 1 (index ∷ []) (omega arith))
