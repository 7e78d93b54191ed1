-- Records that each check of the reader's order turns back, 11 to 19, with 13, 14 and 15 of both versions, and writes that each check of the writer's order
-- turns back, 5, 16 to 19: each meets its check and all those after it that it can meet. The theorems are `reader_order`, `first_order` and `writer_order` in
-- proofs/Records.antt: each outcome is computed from the definition.
use Rattle.std.specs.Prelude.{◌≡◌, List, [], ◌∷◌, ◌++◌, ℕ, ◌-◌, ℤ, replicate}
use Rattle.outcome.specs.Outcome.{number_of, place_of}
use Rattle.state.specs.Layout.{state_of}
use Rattle.record.specs.Record.{record_outcome, write_call}
use Rattle.applied.specs.Examples.{silent_numbers}
use Rattle.applied.specs.Refusals.{Refusal, refused, zeros_then}

-- ---- the reader
abbrev pub read_refusal : List ℕ → Refusal
read_refusal b = let o = record_outcome b in refused (number_of o) (place_of o)

-- n zero bytes, and then 255 up to m bytes: from there on each number is -1
abbrev pub bytes_then : ℕ → ℕ → List ℕ
bytes_then n m = replicate n 0 ++ replicate (m - n) 255

-- the tag, and version, distance and count, low bytes first
abbrev pub current_end : List ℕ
current_end = 0x4D ∷ 0x37 ∷ 2 ∷ 0 ∷ 0xAA ∷ 1 ∷ 0xD5 ∷ 0 ∷ []

abbrev pub first_end : List ℕ
first_end = 0x4D ∷ 0x37 ∷ 1 ∷ 0 ∷ 0x8A ∷ 1 ∷ 0xC5 ∷ 0 ∷ []

-- 11 is met by seven bytes, whatever they are. Then 12 by either byte of the tag; 13 by versions 0, 3 and 258; 14 by the other version's distance and count,
-- by either alone, and by the version's own but for one; 15 by one byte too few; the rest by the state. 426 bytes, fields 0 to 212
unfoldable pub current_ordered : List Refusal
current_ordered =
    read_refusal (replicate 7 255)
    ∷ read_refusal (0x4D ∷ 0x36 ∷ 3 ∷ 0 ∷ 0 ∷ 0 ∷ 0 ∷ 0 ∷ [])
    ∷ read_refusal (0x4C ∷ 0x37 ∷ 3 ∷ 0 ∷ 0 ∷ 0 ∷ 0 ∷ 0 ∷ [])
    ∷ read_refusal (0x4D ∷ 0x37 ∷ 3 ∷ 0 ∷ 0xAA ∷ 1 ∷ 0xD5 ∷ 0 ∷ [])
    ∷ read_refusal (0x4D ∷ 0x37 ∷ 2 ∷ 1 ∷ 0xAA ∷ 1 ∷ 0xD5 ∷ 0 ∷ [])
    ∷ read_refusal (0x4D ∷ 0x37 ∷ 2 ∷ 0 ∷ 0x8A ∷ 1 ∷ 0xC5 ∷ 0 ∷ [])
    ∷ read_refusal (0x4D ∷ 0x37 ∷ 2 ∷ 0 ∷ 0x8A ∷ 1 ∷ 0xD5 ∷ 0 ∷ [])
    ∷ read_refusal (0x4D ∷ 0x37 ∷ 2 ∷ 0 ∷ 0xAA ∷ 1 ∷ 0xC5 ∷ 0 ∷ [])
    ∷ read_refusal (bytes_then 0 425 ++ current_end)
    ∷ read_refusal (bytes_then 0 426 ++ current_end)
    ∷ read_refusal (bytes_then 330 426 ++ current_end)
    ∷ read_refusal (bytes_then 394 426 ++ current_end)
    ∷ read_refusal (bytes_then 426 426 ++ current_end)
    ∷ read_refusal (replicate 394 0 ++ ((40 ∷ replicate 31 0) ++ current_end))
    ∷ []

abbrev pub ReaderOrder : Type 0
ReaderOrder =
    current_ordered
    ≡ refused 11 0 ∷ refused 12 0 ∷ refused 12 0 ∷ refused 13 0 ∷ refused 13 0 ∷ refused 14 0 ∷ refused 14 0 ∷ refused 14 0
    ∷ refused 15 0 ∷ refused 16 0 ∷ refused 17 0 ∷ refused 18 198 ∷ refused 19 197 ∷ refused 0 0 ∷ []

-- of version 1: 394 bytes, fields 0 to 196, and those that it has not are never turned back. The body is what stands last before the trailer
unfoldable pub first_ordered : List Refusal
first_ordered =
    read_refusal (0x4D ∷ 0x37 ∷ 0 ∷ 0 ∷ 0x8A ∷ 1 ∷ 0xC5 ∷ 0 ∷ [])
    ∷ read_refusal (0x4D ∷ 0x37 ∷ 1 ∷ 0 ∷ 0xAA ∷ 1 ∷ 0xD5 ∷ 0 ∷ [])
    ∷ read_refusal (0x4D ∷ 0x37 ∷ 1 ∷ 0 ∷ 0xAA ∷ 1 ∷ 0xC5 ∷ 0 ∷ [])
    ∷ read_refusal (0x4D ∷ 0x37 ∷ 1 ∷ 0 ∷ 0x8A ∷ 1 ∷ 0xD5 ∷ 0 ∷ [])
    ∷ read_refusal (bytes_then 0 393 ++ first_end)
    ∷ read_refusal (bytes_then 0 394 ++ first_end)
    ∷ read_refusal (bytes_then 330 394 ++ first_end)
    ∷ read_refusal (255 ∷ (bytes_then 394 394 ++ first_end))
    ∷ []

abbrev pub FirstOrder : Type 0
FirstOrder =
    first_ordered
    ≡ refused 13 0 ∷ refused 14 0 ∷ refused 14 0 ∷ refused 14 0 ∷ refused 15 0 ∷ refused 16 0 ∷ refused 17 0 ∷ refused 0 0 ∷ []

-- ---- the writer, of a state as 213 numbers and of so many lent bytes
abbrev pub write_refusal : List ℤ → ℕ → Refusal
write_refusal numbers room = let o = (write_call (state_of numbers) (replicate room 0)).outcome in refused (number_of o) (place_of o)

unfoldable pub write_ordered : List Refusal
write_ordered =
    write_refusal (zeros_then 0 213) 433
    ∷ write_refusal (zeros_then 0 213) 435
    ∷ write_refusal (zeros_then 0 213) 434
    ∷ write_refusal (zeros_then 165 213) 434
    ∷ write_refusal (zeros_then 197 213) 434
    ∷ write_refusal (zeros_then 213 213) 434
    ∷ write_refusal silent_numbers 434
    ∷ []

abbrev pub WriterOrder : Type 0
WriterOrder =
    write_ordered
    ≡ refused 5 0 ∷ refused 5 0 ∷ refused 16 0 ∷ refused 17 0 ∷ refused 18 198 ∷ refused 19 197 ∷ refused 0 0 ∷ []
