-- What the gains are scaled by: each entry of the two tables, and what stands past their ends, lies in 0..=32767.
use Rattle.std.proofs.Common.{Bool, ◌&&◌, List, [], ◌∷◌, ℕ, zero, suc, T, ℤ, pos, negsuc, ◌≤ℤ◌, w16, SFits}
use lib.Signed.{le_z, le_z_yes}
use Rattle.lists.specs.Lists.{at, entry, Every}
use Rattle.lists.proofs.Table.{both_pass, every}
use Rattle.basicop.proofs.Ints.{arith_ℤ, sfits_by}
use Rattle.gain_concealment.specs.Concealment.{pdown, cdown}

-- what holds of 0 and of every entry: 0 stands past the end
pub any_entry : (P : ℤ → Type 0) → P (pos 0) → (xs : List ℤ) → Every P xs → (k : ℕ) → P (at xs k)
any_entry P o [] p k = o
any_entry P o (x ∷ xs) p zero = p.0
any_entry P o (x ∷ xs) p (suc k) = any_entry P o xs p.1 k

-- ---- the rule, by one test of every entry
pub record Factor (x : ℤ) : Type 0 where
  pub from : pos 0 ≤ℤ x
  pub to : x ≤ℤ pos 32767

factor : ℕ → ℤ → Bool
factor k x = le_z (pos 0) x && le_z x (pos 32767)

factor_yes : (k : ℕ) (x : ℤ) → T (factor k x) → Factor x
unfolding factor
factor_yes k x t = let b = both_pass (le_z (pos 0) x) (le_z x (pos 32767)) t in record { from = le_z_yes b.0; to = le_z_yes b.1 }

every_factor : (i : ℕ) (xs : List ℤ) → T (every factor i xs) → Every Factor xs
every_factor i [] t = tt
every_factor i (x ∷ xs) t = let b = both_pass (factor i x) (every factor (suc i) xs) t in (factor_yes i x b.0, every_factor (suc i) xs b.1)

factor_none : Factor (pos 0)
factor_none = record { from = le_z_yes tt; to = le_z_yes tt }

pub pdown_factor : (k : ℕ) → Factor (at pdown k)
unfolding factor
pdown_factor = any_entry Factor factor_none pdown (every_factor 0 pdown tt)

pub cdown_factor : (k : ℕ) → Factor (at cdown k)
unfolding factor
cdown_factor = any_entry Factor factor_none cdown (every_factor 0 cdown tt)

factor_fits : (x : ℤ) → Factor x → SFits w16 x
factor_fits x f = sfits_by (omega (arith_ℤ, f.from, f.to), omega (arith_ℤ, f.from, f.to))

pub pdown_fits : (k : ℕ) → SFits w16 (at pdown k)
pdown_fits k = factor_fits _ (pdown_factor k)

pub cdown_fits : (k : ℕ) → SFits w16 (at cdown k)
cdown_fits k = factor_fits _ (cdown_factor k)

-- at any stage
pub staged : (table : List ℤ) → ((k : ℕ) → Factor (at table k)) → (stage : ℤ) → Factor (entry table stage)
staged table f (pos k) = f k
staged table f (negsuc k) = factor_none
