-- The frame calls over bytes, of any kind of sheet.
use Rattle.std.specs.Prelude.{◌≡◌, Bool, if◌then◌else◌, ◌&&◌, List, [], ◌∷◌, ℕ, ◌*◌, ◌==◌, ℤ, length, replicate, pos}
use Rattle.lists.specs.Parts.{joined}
use Rattle.lpc.specs.declared.Rows.{Rows}
use Rattle.outcome.specs.Outcome.{Outcome, is_accepted}
use Rattle.coding.specs.Bytes.{words, bytes_of, Bytes}
use Rattle.kinds.specs.Kind.{Kind, frame_kind, index_kind, erased_kind}
use Rattle.mr74.specs.Frame.{Trace, call_trace}
use Rattle.capi.specs.Capi.{unfit, code_of, no_numbers, lent_numbers, state_length, state_in, state_bytes}

-- ---- how long the buffers are, in bytes: two for each number, one for each place
abbrev pub sample_count : ℕ
sample_count = 160

-- 320
abbrev pub out_length : ℕ
out_length = 2 * sample_count

-- 88
abbrev pub rows_length : ℕ
rows_length = 2 * (4 * 11)

abbrev pub places_length : ℕ
places_length = 4

-- the past energies, newest first, where a call is lent them
abbrev pub energy_count : ℕ
energy_count = 4

-- state, rows, places and the `count` energies have their lengths: no refusal speaks of these
abbrev pub fits : ℕ → ℕ → ℕ → ℕ → ℕ → Bool
fits count state rows places energies = state == state_length && (rows == rows_length && (places == places_length && energies == 2 * count))

-- ---- the output
-- the room for samples in a lent output, as zeros, whose values no call goes by
abbrev pub room_in : List ℕ → List ℤ
room_in out = if length out == out_length then replicate sample_count (pos 0) else no_numbers

-- the lent output after the call: a refused one leaves it
abbrev pub out_after : Outcome → List ℤ → List ℕ → List ℕ
out_after o samples out = if is_accepted o then bytes_of samples else out

-- ---- the call
-- the four rows one after another
abbrev pub row_bytes : Rows → List ℕ
row_bytes r = bytes_of (joined (r.a ∷ r.b ∷ r.c ∷ r.d ∷ []))

-- the returned number, and what was lent: of the places each is a byte
pub record FrameReturn : Type 0 where
  pub code : ℕ
  pub state : List ℕ
  pub out : List ℕ
  pub rows : List ℕ
  pub places : List ℕ
  pub energies : List ℕ

abbrev pub frame_return : ℕ → List ℕ → List ℕ → List ℕ → List ℕ → List ℕ → FrameReturn
frame_return code state out rows places energies = record { code = code; state = state; out = out; rows = rows; places = places; energies = energies }

-- what a call leaves of all that was lent, by its trace
abbrev pub frame_after : Trace → List ℕ → FrameReturn
frame_after t out = frame_return (code_of t.outcome) (state_bytes t.next) (out_after t.outcome t.output out) (row_bytes t.rows) t.places (bytes_of t.energies)

-- the call of a kind: of a sheet, a state, an output and energies,
abbrev pub kind_after : Kind → List ℕ → List ℕ → List ℕ → List ℕ → FrameReturn
kind_after kind sheet state out energies = frame_after (call_trace kind (words energies) (lent_numbers kind.count sheet) (state_in state) (room_in out)) out

-- and of all that is lent, `count` energies among it
unfoldable pub kind_bytes : Kind → ℕ → List ℕ → List ℕ → List ℕ → List ℕ → List ℕ → List ℕ → FrameReturn
kind_bytes kind count sheet state out rows places energies =
    if fits count (length state) (length rows) (length places) (length energies)
    then kind_after kind sheet state out energies
    else frame_return unfit state out rows places energies

-- ---- the three: a frame sheet's is lent no energies, an index sheet's the tables of logarithm and power beside them
abbrev pub frame_bytes : List ℕ → List ℕ → List ℕ → List ℕ → List ℕ → FrameReturn
frame_bytes sheet state out rows places = kind_bytes frame_kind 0 sheet state out rows places []

abbrev pub table_in : List ℕ → List ℤ
table_in table = lent_numbers 33 table

abbrev pub index_bytes : List ℕ → List ℕ → List ℕ → List ℕ → List ℕ → List ℕ → List ℕ → List ℕ → FrameReturn
index_bytes sheet state out rows places logs pows energies = kind_bytes (index_kind (table_in logs) (table_in pows)) energy_count sheet state out rows places energies

abbrev pub erased_bytes : List ℕ → List ℕ → List ℕ → List ℕ → List ℕ → List ℕ → FrameReturn
erased_bytes sheet state out rows places energies = kind_bytes erased_kind energy_count sheet state out rows places energies

-- ---- what a caller may rely on, of each kind; the theorem is `refused_unchanged` in proofs/Unchanged.antt
-- a frame call that returns another number than 0 leaves the lent state, output and energies as they were
abbrev pub LentUnchanged : FrameReturn → List ℕ → List ℕ → List ℕ → Type 0
LentUnchanged left state out energies = (left.code ≡ 0 → ⊥) → (left.state ≡ state) × (left.out ≡ out) × (left.energies ≡ energies)

abbrev pub RefusedUnchanged : Type 0
RefusedUnchanged =
    (kind : Kind) (count : ℕ) (sheet state out rows places energies : List ℕ) → Bytes state → Bytes energies
    → LentUnchanged (kind_bytes kind count sheet state out rows places energies) state out energies
