-- `CheckedSheet::lags` meets its contract: every kind but the erased one has accepted pitch indices.
use Rattle.std.proofs.Common.{◌≤◌, ◌≡◌, refl, ◌∙◌, List, ◌++◌, arith, ap, ℤ, length}
use Rattle.std.specs.Prelude.{Ok}
use Rattle.outcome.specs.Outcome.{is_accepted}
use Rattle.outcome.specs.Checks.{first_met}
use Rattle.outcome.proofs.Checks.{both_accept}
use Rattle.outcome.proofs.Variants.{accepted_ok}
use Rattle.gain.specs.Checks.{table_checks, index_checks}
use Rattle.kinds.specs.declared.kind.CheckedKind.{CheckedKind}
use Rattle.kinds.specs.declared.kind.CheckedKind.TheVariants.{Frame, Index, Erased}
use Rattle.kinds.specs.Sheet.{lags_of, gain_indices_of}
use Rattle.kinds.specs.Checks.{pitch_checks, gain_checks}
use Rattle.kinds.specs.Kind.{kind_of}
use Rattle.kinds.specs.Checked.{checked_kind}
use Rattle.kinds.proofs.Passed.{long_of}
use Rattle.kinds.proofs.sheet.CheckedSheet.lags.Goals as goal

-- of any other kind
pitch_passed : (k : CheckedKind) (sheet : List ℤ) → (k ≡ Erased → ⊥) → first_met ((kind_of (checked_kind k)).checks sheet) ≡ Ok tt → first_met (pitch_checks sheet) ≡ Ok tt
pitch_passed Frame sheet n h = accepted_ok _ (both_accept (pitch_checks sheet) (gain_checks sheet) (ap is_accepted h)).0
pitch_passed (Index tables) sheet n h =
    accepted_ok _ (both_accept (pitch_checks sheet) (table_checks tables.logs.now tables.pows.now ++ index_checks 4 (gain_indices_of sheet)) (ap is_accepted h)).0
pitch_passed Erased sheet n h = absurd (n refl)

decoded_lags : (k : CheckedKind) (sheet : List ℤ) (t : ℤ) → (k ≡ Erased → ⊥) → lags_of sheet ≡ (kind_of (checked_kind k)).lags sheet t
decoded_lags Frame sheet t n = refl
decoded_lags (Index tables) sheet t n = refl
decoded_lags Erased sheet t n = absurd (n refl)

pub decode_lags-requires : goal.decode_lags-requires
decode_lags-requires c =
    let a = c.args.self in
    let long : 171 ≤ length a.numbers.now = long_of (checked_kind a.kind) (length a.numbers.now) a.count in
    record { accepted = pitch_passed a.kind a.numbers.now c.in_default.not-Erased a.own; count = omega arith }

pub returns-in_default : goal.returns-in_default
returns-in_default c = let a = c.args.self in c.decode_lags.ensures ∙ decoded_lags a.kind a.numbers.now c.args.last_lag c.in_default.not-Erased
