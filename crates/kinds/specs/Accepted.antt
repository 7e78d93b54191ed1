-- What an accepted call has shown of its sheet, whole and in plain words: it is accepted exactly where this holds. The theorem is `accepted_exactly` in
-- proofs/Accepted.antt.
use Rattle.std.specs.Prelude.{◌≡◌, Ok, true, List, ℕ, ◌+◌, ◌<◌, ℤ, pos, ◌+ℤ◌, length, ◌≤ℤ◌}
use Rattle.lists.specs.Lists.{at}
use Rattle.outcome.specs.Outcome.{is_accepted}
use Rattle.gain.specs.Checks.{TableKept}
use Rattle.state.specs.declared.State.{State}
use Rattle.state.specs.State.{InRange}
use Rattle.kinds.specs.Sheet.{stage_of}
use Rattle.kinds.specs.Kind.{SheetKind, FrameSheet, IndexSheet, ErasedSheet, kind_of, call_outcome}

-- from .. to
abbrev pub In : ℤ → ℤ → ℤ → Type 0
In from to x = (from ≤ℤ x) × (x ≤ℤ to)

-- ten LSFs in 0..=16384,
abbrev pub LsfsKept : List ℤ → Type 0
LsfsKept sheet = (k : ℕ) → k < 10 → In (pos 0) (pos 16384) (at sheet k)

-- the first at least 205, and each later one at least 205 above the one before
pub record GapsKept (sheet : List ℤ) : Type 0 where
  pub first : pos 205 ≤ℤ at sheet 0
  pub later : (k : ℕ) → k < 9 → (at sheet k +ℤ pos 205) ≤ℤ at sheet (k + 1)

-- ---- a kind's own
pub record PitchIndices (sheet : List ℤ) : Type 0 where
  pub a : In (pos 0) (pos 255) (at sheet 10)
  pub b : In (pos 0) (pos 31) (at sheet 11)
  pub c : In (pos 0) (pos 255) (at sheet 12)
  pub d : In (pos 0) (pos 31) (at sheet 13)

abbrev pub GainsKept : List ℤ → Type 0
GainsKept sheet = (k : ℕ) → k < 8 → pos 0 ≤ℤ at sheet (14 + k)

abbrev pub GainIndices : List ℤ → Type 0
GainIndices sheet = (k : ℕ) → k < 4 → In (pos 0) (pos 127) (at sheet (14 + k))

abbrev pub OwnKept : SheetKind → List ℤ → Type 0
OwnKept FrameSheet sheet = PitchIndices sheet × GainsKept sheet
OwnKept (IndexSheet logs pows) sheet = PitchIndices sheet × (TableKept logs × (TableKept pows × GainIndices sheet))
OwnKept ErasedSheet sheet = In (pos 0) (pos 6) (stage_of sheet)

-- ---- the call
pub record CallKept (kind : SheetKind) (sheet : List ℤ) (s : State) (room : ℕ) : Type 0 where
  pub count : length sheet ≡ (kind_of kind).count
  pub lent : room ≡ 160
  pub lsfs : LsfsKept sheet
  pub gaps : GapsKept sheet
  pub own : OwnKept kind sheet
  pub state : InRange s

pub record Exactly (kind : SheetKind) (sheet : List ℤ) (s : State) (room : ℕ) : Type 0 where
  pub shown : is_accepted (call_outcome (kind_of kind) sheet s room) ≡ true → CallKept kind sheet s room
  pub enough : CallKept kind sheet s room → call_outcome (kind_of kind) sheet s room ≡ Ok tt

abbrev pub AcceptedExactly : Type 0
AcceptedExactly = (kind : SheetKind) (sheet : List ℤ) (s : State) (room : ℕ) → Exactly kind sheet s room
