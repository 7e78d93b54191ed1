-- `OtherSheet`, `OtherOutput` and `OtherTable` (capi/specs/Lengths.antt) applied: a call of each kind is given a sheet of another length, one of an odd count of bytes;
-- a call of each kind an output of another length; and a table is a number short.
-- The theorem is `lengths_applied` in proofs/Lengths.antt.
use Rattle.std.specs.Prelude.{◌≡◌, false, [], ℕ, replicate}
use Rattle.gain.specs.Checks.{is_table}
use Rattle.capi.specs.Frames.{FrameReturn, frame_bytes, index_bytes, erased_bytes, table_in}

-- of so many bytes of a sheet and of an output, all zeros: state, rows, places and energies are of their lengths, and the tables are none
abbrev pub frame_of : ℕ → ℕ → FrameReturn
frame_of sheet out = frame_bytes (replicate sheet 0) (replicate 426 0) (replicate out 0) (replicate 88 0) (replicate 4 0)

abbrev pub index_of : ℕ → ℕ → FrameReturn
index_of sheet out = index_bytes (replicate sheet 0) (replicate 426 0) (replicate out 0) (replicate 88 0) (replicate 4 0) [] [] (replicate 8 0)

abbrev pub erased_of : ℕ → ℕ → FrameReturn
erased_of sheet out = erased_bytes (replicate sheet 0) (replicate 426 0) (replicate out 0) (replicate 88 0) (replicate 4 0) (replicate 8 0)

pub record LengthsApplied : Type 0 where
  -- a frame sheet is of 364 bytes, an index sheet of 356 and an erased one of 342: a byte more, and the sheets of other kinds
  pub frame_sheet : (frame_of 365 320).code ≡ 1
  pub index_sheet : (index_of 364 320).code ≡ 1
  pub erased_sheet : (erased_of 356 320).code ≡ 1
  -- where the output is wrong too, the sheet is met first
  pub both : (frame_of 365 318).code ≡ 1
  -- an output is of 320 bytes
  pub frame_output : (frame_of 364 318).code ≡ 5
  pub index_output : (index_of 356 321).code ≡ 5
  pub erased_output : (erased_of 342 0).code ≡ 5
  -- a table is of 66
  pub table : is_table (table_in (replicate 64 0)) ≡ false
