-- What bytes of another length than a sheet's, an output's or a table's come to, also where they are an odd count. No number stands for them (Capi.antt), and no call
-- takes so few. The theorems are `other_sheet`, `other_output` and `other_table` in proofs/Lengths.antt.
use Rattle.std.specs.Prelude.{◌≡◌, true, false, List, ℕ, ◌*◌, length}
use Rattle.gain.specs.Checks.{is_table}
use Rattle.kinds.specs.Kind.{SheetKind, kind_of}
use Rattle.capi.specs.Frames.{out_length, fits, kind_bytes, table_in}

-- a call of any kind, which is lent so many energies, of a sheet of another length returns 1,
abbrev pub OtherSheet : Type 0
OtherSheet =
    (kind : SheetKind) (count : ℕ) (sheet state out rows places energies : List ℕ)
    → fits count (length state) (length rows) (length places) (length energies) ≡ true
    → (length sheet ≡ 2 * (kind_of kind).count → ⊥)
    → (kind_bytes (kind_of kind) count sheet state out rows places energies).code ≡ 1

-- and of its sheet's length and an output of another 5;
abbrev pub OtherOutput : Type 0
OtherOutput =
    (kind : SheetKind) (count : ℕ) (sheet state out rows places energies : List ℕ)
    → fits count (length state) (length rows) (length places) (length energies) ≡ true
    → length sheet ≡ 2 * (kind_of kind).count
    → (length out ≡ out_length → ⊥)
    → (kind_bytes (kind_of kind) count sheet state out rows places energies).code ≡ 5

-- and such a table is none, which 7 turns back in its order
abbrev pub OtherTable : Type 0
OtherTable = (table : List ℕ) → (length table ≡ 2 * 33 → ⊥) → is_table (table_in table) ≡ false
