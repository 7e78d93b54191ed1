-- The table of the inverse root: 49 entries within 16384..=32767, each less than the one before it, by at most 977.
use Rattle.std.proofs.Common.{Bool, ◌&&◌, ◌||◌, ℕ, ◌+◌, ◌<◌, arith, T, leb, ℤ, pos, negsuc, ◌+ℤ◌, ◌≤ℤ◌, ◌<ℤ◌, w16, SFits}
use Rattle.std.proofs.lemmas.Bool.{lt-leb}
use Rattle.std.specs.Int.Signed.{le_z, lt_z, le_z_yes, lt_z_yes}
use Rattle.lists.specs.Lists.{at, entry}
use Rattle.lists.proofs.Table.{at_each, both_pass}
use Rattle.basicop.proofs.Ints.{arith_ℤ, sfits_by}
use Rattle.energy.specs.Root.{inverse_table}

-- the one test: an entry's range, and of all but the last the step to the next
range : ℤ → Bool
range x = le_z (pos 16384) x && le_z x (pos 32767)

step : ℤ → ℤ → Bool
step x next = lt_z next x && le_z x (next +ℤ pos 977)

rule : ℕ → ℤ → Bool
rule k x = range x && (leb 48 k || step x (at inverse_table (k + 1)))

tested : (k : ℕ) → k < 49 → T (rule k (at inverse_table k))
unfolding inverse_table rule range step
tested k h = at_each rule inverse_table tt k h

pub record Entry (x : ℤ) : Type 0 where
  pub from : pos 16384 ≤ℤ x
  pub to : x ≤ℤ pos 32767

pub table_fits : {x : ℤ} → Entry x → SFits w16 x
table_fits e = sfits_by (omega (arith_ℤ, e.from, e.to))

pub record Step (x next : ℤ) : Type 0 where
  pub falls : next <ℤ x
  pub small : x ≤ℤ (next +ℤ pos 977)

pub entry_in : (k : ℕ) → k < 49 → Entry (at inverse_table k)
unfolding rule range
entry_in k h =
    let x = at inverse_table k in
    let t = both_pass (le_z (pos 16384) x) (le_z x (pos 32767)) (both_pass (range x) _ (tested k h)).0 in
    record { from = le_z_yes t.0; to = le_z_yes t.1 }

pub entry_step : (k : ℕ) → k < 48 → Step (at inverse_table k) (at inverse_table (k + 1))
unfolding rule step
entry_step k h =
    let x = at inverse_table k in
    let y = at inverse_table (k + 1) in
    let t = both_pass (lt_z y x) (le_z x (y +ℤ pos 977)) (rw (lt-leb 48 k h) at (both_pass (range x) _ (tested k (omega arith))).1) in
    record { falls = lt_z_yes t.0; small = le_z_yes t.1 }

-- at an integer index: its entry, and the next
pub entry_of : (i : ℤ) → pos 0 ≤ℤ i → i <ℤ pos 48 → Entry (entry inverse_table i) × Entry (entry inverse_table (i +ℤ pos 1))
entry_of (pos i) h l = (entry_in i (omega arith_ℤ), entry_in (i + 1) (omega arith_ℤ))
entry_of (negsuc i) h l = absurd h.le
