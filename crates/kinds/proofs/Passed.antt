-- What an accepted call of any kind has shown, group by group.
use Rattle.std.proofs.Common.{ℕ, ◌-◌, ◌≤◌, ◌≡◌, true, List, ◌++◌, arith, ℤ, length, length-take-le}
use Rattle.outcome.specs.Outcome.{is_accepted}
use Rattle.outcome.specs.Checks.{first_met}
use Rattle.outcome.proofs.Checks.{both_accept}
use Rattle.state.specs.declared.State.{State}
use Rattle.state.specs.State.{state_checks}
use Rattle.kinds.specs.Sheet.{lsfs_of}
use Rattle.kinds.specs.Checks.{length_checks, lsf_checks}
use Rattle.kinds.specs.Kind.{SheetKind, FrameSheet, IndexSheet, ErasedSheet, kind_of, call_outcome}
use Rattle.kinds.proofs.Groups.{lengths_accept}

-- every sheet has more than ten numbers, and the last 160 are its innovation
pub long_of : (k : SheetKind) (n : ℕ) → n ≡ (kind_of k).count → 171 ≤ n
long_of FrameSheet n e = omega (arith, e)
long_of (IndexSheet logs pows) n e = omega (arith, e)
long_of ErasedSheet n e = omega (arith, e)

pub first_of : (k : SheetKind) (n : ℕ) → n ≡ (kind_of k).count → n - 160 ≡ (kind_of k).first
first_of FrameSheet n e = omega (arith, e)
first_of (IndexSheet logs pows) n e = omega (arith, e)
first_of ErasedSheet n e = omega (arith, e)

pub ten_of : (k : SheetKind) (sheet : List ℤ) → length sheet ≡ (kind_of k).count → length (lsfs_of sheet) ≡ 10
ten_of k sheet e = length-take-le 10 sheet (omega (arith, long_of k (length sheet) e))

pub record Passed (k : SheetKind) (sheet : List ℤ) (s : State) (room : ℕ) : Type 0 where
  pub count : length sheet ≡ (kind_of k).count
  pub lent : room ≡ 160
  pub lsfs : is_accepted (first_met (lsf_checks sheet)) ≡ true
  pub own : is_accepted (first_met ((kind_of k).checks sheet)) ≡ true
  pub state : is_accepted (first_met (state_checks s)) ≡ true

pub passed : (k : SheetKind) (sheet : List ℤ) (s : State) (room : ℕ) → is_accepted (call_outcome (kind_of k) sheet s room) ≡ true → Passed k sheet s room
unfolding call_outcome
passed k sheet s room h =
    let own = (kind_of k).checks sheet in
    let a = both_accept (length_checks (kind_of k).count (length sheet) room) (lsf_checks sheet ++ (own ++ state_checks s)) h in
    let b = both_accept (lsf_checks sheet) (own ++ state_checks s) a.1 in
    let c = both_accept own (state_checks s) b.1 in
    let lengths = lengths_accept (kind_of k).count (length sheet) room a.0 in
    record { count = lengths.0; lent = lengths.1; lsfs = b.0; own = c.0; state = c.1 }
