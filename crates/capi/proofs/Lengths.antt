-- Bytes of another length than a sheet's, an output's or a table's are refused: no number stands for them.
use Rattle.std.proofs.Common.{◌≡◌, refl, ap, ◌∙◌, true, List, [], ℕ, ◌*◌, ℤ, length, eq-eqb, ne_eqb}
use Rattle.outcome.specs.Checks.{first_met}
use Rattle.state.specs.declared.State.{State}
use Rattle.gain.specs.Checks.{is_table}
use Rattle.coding.specs.Bytes.{words}
use Rattle.coding.proofs.Words.{words_length}
use Rattle.kinds.specs.Kind.{Kind, SheetKind, FrameSheet, IndexSheet, ErasedSheet, kind_of, call_outcome}
use Rattle.capi.specs.Capi.{code_of, lent_numbers, state_in}
use Rattle.capi.specs.Frames.{out_length, fits, room_in, kind_bytes}
use Rattle.capi.specs.Lengths.{OtherSheet, OtherOutput, OtherTable}
use Rattle.capi.proofs.Codes.{traced_outcome}

other_numbers : (count : ℕ) (bytes : List ℕ) → (length bytes ≡ 2 * count → ⊥) → lent_numbers count bytes ≡ []
other_numbers count bytes n = rw (ne_eqb _ _ n) refl

numbers_count : (count : ℕ) (bytes : List ℕ) → length bytes ≡ 2 * count → length (lent_numbers count bytes) ≡ count
numbers_count count bytes e = rw (eq-eqb _ _ e) (words_length bytes count e)

other_room : (out : List ℕ) → (length out ≡ out_length → ⊥) → length (room_in out) ≡ 0
other_room out n = rw (ne_eqb _ _ n) refl

-- what is returned where all fits
module _ (kind : Kind) (count : ℕ) (sheet state out rows places energies : List ℕ) (fit : fits count (length state) (length rows) (length places) (length energies) ≡ true) where
  code_is : (kind_bytes kind count sheet state out rows places energies).code ≡ code_of (call_outcome kind (lent_numbers kind.count sheet) (state_in state) (length (room_in out)))
  unfolding kind_bytes
  code_is = rw fit (ap code_of (traced_outcome kind (words energies) (lent_numbers kind.count sheet) (state_in state) (room_in out)))

-- no sheet is of no numbers
sheet_refused : (kind : SheetKind) (s : State) (room : ℕ) → code_of (call_outcome (kind_of kind) [] s room) ≡ 1
unfolding call_outcome first_met
sheet_refused FrameSheet s room = refl
sheet_refused (IndexSheet logs pows) s room = refl
sheet_refused ErasedSheet s room = refl

output_refused : (kind : Kind) (sheet : List ℤ) (s : State) (room : ℕ) → length sheet ≡ kind.count → room ≡ 0 → code_of (call_outcome kind sheet s room) ≡ 5
unfolding call_outcome first_met
output_refused kind sheet s room l e = rw (e, eq-eqb _ _ l) refl

pub other_sheet : OtherSheet
other_sheet kind count sheet state out rows places energies fit n =
    code_is (kind_of kind) count sheet state out rows places energies fit
    ∙ rw (other_numbers (kind_of kind).count sheet n) (sheet_refused kind (state_in state) (length (room_in out)))

pub other_output : OtherOutput
other_output kind count sheet state out rows places energies fit e n =
    code_is (kind_of kind) count sheet state out rows places energies fit
    ∙ output_refused (kind_of kind) (lent_numbers (kind_of kind).count sheet) (state_in state) _ (numbers_count (kind_of kind).count sheet e) (other_room out n)

pub other_table : OtherTable
unfolding is_table
other_table table n = rw (other_numbers 33 table n) refl
