-- `check_tables` meets its contract: the logarithm's table decides before the power's.
use Rattle.std.proofs.Common.{◌≡◌, refl, false, List, ℤ}
use Rattle.outcome.specs.Checks.{first_met}
use Rattle.gain.specs.Checks.{is_table, TableKept}
use Rattle.gain.proofs.Kept.{table_kept, kept_accepted}
use Rattle.gain.proofs.checks.check_tables.Goals as goal

pub returns-in_default-clause-value : goal.returns-in_default-clause-value
unfolding first_met
returns-in_default-clause-value c = rw c.in_default.ensures

pub returns-in_default-as_table-clause-value : goal.returns-in_default-as_table-clause-value
unfolding first_met
returns-in_default-as_table-clause-value c = rw (c.in-Some.ensures.0, c.in_default-as_table.ensures)

pub returns-clause-value : goal.returns-clause-value
unfolding first_met
returns-clause-value c =
    let logs = c.in-Some.ensures in
    let pows = c.in-Some-as_table.ensures in
    (rw (logs.0, pows.0) refl, (logs.1, pows.1))

-- no table is not kept as one
never : {table : List ℤ} → is_table table ≡ false → TableKept table → ⊥
never e k = cc (e, kept_accepted _ k)

pub returns-in_default-clause-accepted : goal.returns-in_default-clause-accepted
returns-in_default-clause-accepted c = (λ h. absurd (cc h), λ k. absurd (never c.in_default.ensures k.0))

pub returns-in_default-as_table-clause-accepted : goal.returns-in_default-as_table-clause-accepted
returns-in_default-as_table-clause-accepted c = (λ h. absurd (cc h), λ k. absurd (never c.in_default-as_table.ensures k.1))

pub returns-clause-accepted : goal.returns-clause-accepted
returns-clause-accepted c = (λ h. (table_kept _ c.in-Some.ensures.0, table_kept _ c.in-Some-as_table.ensures.0), λ k. refl)
