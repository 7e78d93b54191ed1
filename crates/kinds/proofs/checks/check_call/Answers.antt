-- `check_call` meets its contract: group after group, the first that refuses decides.
use Rattle.std.proofs.Common.{ℕ, ◌≡◌, refl, sym, ap, arith, length}
use Rattle.std.specs.Prelude.{Ok}
use Rattle.std.proofs.lemmas.Result.{err_from_is_err_and}
use Rattle.outcome.specs.Outcome.{is_accepted}
use Rattle.outcome.specs.Checks.{first_met}
use Rattle.kinds.specs.Checks.{length_checks}
use Rattle.kinds.specs.Kind.{SheetKind, kind_of}
use Rattle.kinds.specs.Checked.{lent_kind}
use Rattle.kinds.proofs.Groups.{lengths_accept}
use Rattle.kinds.proofs.Order.{lengths_refuse, lsfs_refuse, own_refuse, state_decides}
use Rattle.kinds.proofs.Passed.{long_of}
use Rattle.kinds.proofs.checks.check_call.Goals as goal

-- ---- of a kind, where the lengths are its own
module _ (kind : SheetKind) (numbers room : ℕ) {n : ℕ} (e : n ≡ (kind_of kind).count) (h : Ok tt ≡ first_met (length_checks n numbers room)) where
  lengths : Ok tt ≡ first_met (length_checks (kind_of kind).count numbers room)
  lengths = rw e at h

  count : numbers ≡ (kind_of kind).count
  count = (lengths_accept (kind_of kind).count numbers room (ap is_accepted (sym lengths))).0

pub returns-in_err-check_lengths : goal.returns-in_err-check_lengths
returns-in_err-check_lengths c =
    let a = c.args in
    let p = err_from_is_err_and c.from_residual.result c.from_residual.ensures.1 in
    rw (p.1, p.2) (lengths_refuse (kind_of (lent_kind a.kind)) a.sheet.now a.state a.room (rw c.count.ensures at c.in_err-check_lengths.ensures))

pub check_lsfs-requires : goal.check_lsfs-requires
check_lsfs-requires c =
    let a = c.args in
    let k = lent_kind a.kind in
    omega (arith, long_of k (length a.sheet.now) (count k (length a.sheet.now) a.room c.count.ensures c.in_ok-check_lengths.ensures))

pub returns-in_err-check_lsfs : goal.returns-in_err-check_lsfs
returns-in_err-check_lsfs c =
    let a = c.args in
    let k = lent_kind a.kind in
    let p = err_from_is_err_and c.from_residual-in_err-check_lsfs.result c.from_residual-in_err-check_lsfs.ensures.1 in
    rw (p.1, p.2)
    (lsfs_refuse (kind_of k) a.sheet.now a.state a.room (lengths k (length a.sheet.now) a.room c.count.ensures c.in_ok-check_lengths.ensures) c.in_err-check_lsfs.ensures)

pub check_own-requires : goal.check_own-requires
check_own-requires c =
    let a = c.args in
    count (lent_kind a.kind) (length a.sheet.now) a.room c.count.ensures c.in_ok-check_lengths.ensures

pub returns-in_err-kind : goal.returns-in_err-kind
returns-in_err-kind c =
    let a = c.args in
    let k = lent_kind a.kind in
    let p = err_from_is_err_and c.from_residual-in_err-kind.result c.from_residual-in_err-kind.ensures.1 in
    rw (p.1, p.2)
    (own_refuse (kind_of k) a.sheet.now a.state a.room (lengths k (length a.sheet.now) a.room c.count.ensures c.in_ok-check_lengths.ensures) c.in_ok-check_lsfs.ensures c.in_err-kind.ensures)

pub returns-in_err-check_state : goal.returns-in_err-check_state
returns-in_err-check_state c =
    let a = c.args in
    let k = lent_kind a.kind in
    let p = err_from_is_err_and c.from_residual-in_err-check_state.result c.from_residual-in_err-check_state.ensures.1 in
    rw (p.1, p.2)
    (state_decides (kind_of k) a.sheet.now a.state a.room (lengths k (length a.sheet.now) a.room c.count.ensures c.in_ok-check_lengths.ensures) c.in_ok-check_lsfs.ensures c.in_err-check_state.ensures.value c.in_ok-kind.ensures.0)

pub invariant_of-result : goal.invariant_of-result
invariant_of-result c =
    let a = c.args in
    let k = c.in_ok-kind.ensures in
    record {
      count = rw k.1 (count (lent_kind a.kind) (length a.sheet.now) a.room c.count.ensures c.in_ok-check_lengths.ensures);
      lsfs = sym c.in_ok-check_lsfs.ensures;
      own = rw k.1 k.0;
    }

pub returns : goal.returns
returns c =
    let a = c.args in
    let k = lent_kind a.kind in
    (state_decides (kind_of k) a.sheet.now a.state a.room (lengths k (length a.sheet.now) a.room c.count.ensures c.in_ok-check_lengths.ensures) c.in_ok-check_lsfs.ensures c.in_ok-check_state.ensures.value c.in_ok-kind.ensures.0, (c.in_ok-kind.ensures.1, refl))
