-- The cosine table: its entries fit 16 bits, it falls at each step, and entry 64 - k is minus entry k except at the ends.
use Rattle.std.proofs.Common.{◌≡◌, Bool, ◌||◌, ℕ, ◌+◌, ◌-◌, ◌<◌, arith, leb, ltb, ltb→lt, ℤ, neg_ℤ, ◌<ℤ◌, w16, SFits}
use Rattle.std.proofs.lemmas.Bool.{lt-leb}
use Rattle.std.specs.Int.Signed.{mag, lt_z, lt_z_yes}
use Rattle.lists.specs.Lists.{at, eq_z}
use Rattle.lists.proofs.Table.{at_each, eq_z→eq}
use Rattle.spectral.specs.Lsp.{cosine}

small : ℕ → ℤ → Bool
small k x = ltb (mag x) 32768

pub cosine_fits : (k : ℕ) → k < 65 → SFits w16 (at cosine k)
unfolding cosine small
cosine_fits k h = record { sfits = ltb→lt _ _ (at_each small cosine tt k h) }

-- the two tests, which every entry but the ends must pass
falls : ℕ → ℤ → Bool
falls k x = leb 64 k || lt_z (at cosine (k + 1)) x

odd : ℕ → ℤ → Bool
odd k x = (leb 64 k || leb k 0) || eq_z (at cosine (64 - k)) (neg_ℤ x)

pub cosine_falls : (k : ℕ) → k < 64 → at cosine (k + 1) <ℤ at cosine k
unfolding cosine falls
cosine_falls k h = lt_z_yes (rw (lt-leb 64 k h) at (at_each falls cosine tt k (omega arith)))

pub cosine_odd : (k : ℕ) → 0 < k → k < 64 → at cosine (64 - k) ≡ neg_ℤ (at cosine k)
unfolding cosine odd
cosine_odd k p h = eq_z→eq _ _ (rw (lt-leb 64 k h, lt-leb k 0 p) at (at_each odd cosine tt k (omega arith)))
