-- A table by the two searches, as the code tests it, and what an accepted one is; and no other is turned back.
use Rattle.std.proofs.Common.{◌≡◌, refl, ap, Bool, true, false, cond, not, ◌&&◌, List, [], ◌∷◌, ℕ, zero, suc, ◌≤◌, ◌<◌, add-one, arith, eqb, ltb, eqb→eq, ℤ, pos, ◌+ℤ◌, ◌-ℤ◌, length, replicate, ◌≤ℤ◌, eq-eqb, ne_eqb, ltb-true, ltb-false}
use borrow.Author.Differences.{sum_is_lem}
use Rattle.std.specs.Prelude.{Some, None, is_some}
use Rattle.lists.specs.Lists.{at}
use Rattle.lists.proofs.Table.{both_pass}
use Rattle.basicop.proofs.Ints.{arith_ℤ, sub_ℤ_is}
use Rattle.basicop.proofs.Tests.{no_less}
use Rattle.outcome.specs.Checks.{within, apart, found, first_outside, first_close, first_met}
use Rattle.std.proofs.lemmas.List.{get_or-replicate}
use Rattle.outcome.proofs.Ranges.{none_outside}
use Rattle.outcome.proofs.Gaps.{in_gaps, none_close}
use Rattle.outcome.specs.Outcome.{is_accepted}
use Rattle.gain.specs.Checks.{is_table, table_checks, TableKept}
use Rattle.gain.proofs.Groups.{in_limit, tables_accept}

-- ---- what it is
pub table_kept : (table : List ℤ) → is_table table ≡ true → TableKept table
unfolding is_table
table_kept table e =
    let outside = first_outside table (replicate 33 (pos 32767)) in
    let close = first_close (pos 0) (pos 0) table in
    let t = both_pass (eqb (length table) 33) (eqb outside 33 && eqb close 33) (rw e tt) in
    let p = both_pass (eqb outside 33) (eqb close 33) t.1 in
    let ranges : 33 ≤ outside = omega (arith, eqb→eq outside 33 p.0) in
    let gaps : 33 ≤ close = omega (arith, eqb→eq close 33 p.1) in
    record {
      count = eqb→eq (length table) 33 t.0;
      range = in_limit 33 (pos 32767) table ranges;
      rises = λ k h. rw (add-one k) (omega (arith_ℤ, in_gaps (pos 0) (pos 0) table (suc k) (omega arith), sum_is_lem (at table k) (pos 0)));
    }

pub accepted_tables : (logs pows : List ℤ) → is_accepted (first_met (table_checks logs pows)) ≡ true → TableKept logs × TableKept pows
accepted_tables logs pows h =
    let t = tables_accept logs pows h in
    (table_kept logs t.0, table_kept pows t.1)

-- ---- as the code tests it: whether a search found a place
one_most : (b : Bool) {m n : ℕ} → m ≤ n → cond b (suc m) 0 ≤ suc n
one_most true h = omega arith
one_most false h = omega arith

outside_most : (numbers limits : List ℤ) → first_outside numbers limits ≤ length numbers
unfolding first_outside
outside_most [] limits = omega arith
outside_most (x ∷ xs) [] = omega arith
outside_most (x ∷ xs) (l ∷ ls) = one_most (within l x) (outside_most xs ls)

close_most : (gap before : ℤ) (numbers : List ℤ) → first_close gap before numbers ≤ length numbers
unfolding first_close
close_most gap before [] = omega arith
close_most gap before (x ∷ xs) = one_most (apart gap before x) (close_most gap x xs)

searched : (place count : ℕ) → place ≤ count → eqb place count ≡ not (is_some (found place count))
searched place count h = go (ltb place count) refl
  where
    go : (b : Bool) → ltb place count ≡ b → eqb place count ≡ not (is_some (cond b (Some place) None))
    go true e = let l : place < count = ltb-true place count e in ne_eqb place count (omega arith)
    go false e = let l : count ≤ place = ltb-false place count e in eq-eqb place count (omega arith)

pub table_tests : (numbers : List ℤ) → length numbers ≡ 33 → is_table numbers ≡ not (is_some (found (first_outside numbers (replicate 33 (pos 32767))) (length numbers))) && not (is_some (found (first_close (pos 0) (pos 0) numbers) (length numbers)))
unfolding is_table
table_tests numbers e =
    rw (← searched _ (length numbers) (outside_most numbers (replicate 33 (pos 32767))), ← searched _ (length numbers) (close_most (pos 0) (pos 0) numbers), e) refl

pub no_table : (numbers : List ℤ) → (length numbers ≡ 33 → ⊥) → is_table numbers ≡ false
unfolding is_table
no_table numbers h = rw (ne_eqb (length numbers) 33 h)

-- ---- and nothing else: the searches find none where each number lies in its range, and none below the one before it
pub kept_accepted : (table : List ℤ) → TableKept table → is_table table ≡ true
unfolding is_table
kept_accepted table t =
    rw (none_outside table (replicate 33 (pos 32767)) t.count inside, none_close (pos 0) (pos 0) table above, t.count)
  where
    inside : (k : ℕ) → k < length table → (pos 0 ≤ℤ at table k) × (at table k ≤ℤ at (replicate 33 (pos 32767)) k)
    inside k l =
        let b : k < 33 = omega (arith, l, t.count) in
        let r = t.range k b in
        (r.0, rw (get_or-replicate 33 k (pos 32767) (pos 0) b) r.1)

    above : (k : ℕ) → k < length table → (at (pos 0 ∷ table) k +ℤ pos 0) ≤ℤ at table k
    above zero l = (t.range 0 (omega arith)).0
    above (suc k) l =
        let rises : at table k ≤ℤ at table (suc k) = rw (← add-one k) (t.rises k (omega (arith, l, t.count))) in
        omega (arith_ℤ, rises, sum_is_lem (at table k) (pos 0))
