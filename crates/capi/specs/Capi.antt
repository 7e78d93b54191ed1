-- What the calls over bytes share, and the reader and the writer over bytes; the frame calls are in Frames.antt, the call of a gain index in Gains.antt. Numbers
-- of 16 bits are two bytes, low byte first. A state is the bytes of a record's body.
use Rattle.std.specs.Prelude.{if◌then◌else◌, List, [], ℕ, ◌+◌, ◌*◌, ◌==◌, ℤ, length}
use Rattle.state.specs.declared.State.{State}
use Rattle.outcome.specs.Outcome.{Outcome, number_of, place_of}
use Rattle.state.specs.Layout.{numbers_of, state_of}
use Rattle.coding.specs.Bytes.{words, bytes_of}
use Rattle.coding.specs.Body.{body_length}
use Rattle.record.specs.Record.{read_call, write_call}

-- ---- what is returned
-- returned where something lent that no refusal speaks of has another length than its own: state, rows, places, energies, innovation or gains. It is the number of
-- no refusal. It comes before every refusal, and nothing lent is changed then
abbrev pub unfit : ℕ
unfit = 255

-- number and place in one
abbrev pub code_of : Outcome → ℕ
code_of o = number_of o + 256 * place_of o

-- ---- numbers and states
-- what stands for a sheet, an output or a table of another length than its own, of an odd count of bytes too: no number at all. No call takes so many, and so each
-- is refused as one of another length is: a sheet by 1, an output by 5, a table by 7
abbrev pub no_numbers : List ℤ
no_numbers = []

-- the numbers of lent bytes, of which `count` are wanted
abbrev pub lent_numbers : ℕ → List ℕ → List ℤ
lent_numbers count bytes = if length bytes == 2 * count then words bytes else no_numbers

-- 426 bytes
abbrev pub state_length : ℕ
state_length = body_length

abbrev pub state_in : List ℕ → State
state_in bytes = state_of (words bytes)

abbrev pub state_bytes : State → List ℕ
state_bytes s = bytes_of (numbers_of s)

-- ---- the reader
-- the returned number, the lent state, and the lent number: the length of the note, which is what the record begins with
pub record ReadReturn : Type 0 where
  pub code : ℕ
  pub state : List ℕ
  pub note : ℕ

abbrev pub read_return : ℕ → List ℕ → ℕ → ReadReturn
read_return code state note = record { code = code; state = state; note = note }

unfoldable pub read_bytes : List ℕ → List ℕ → ℕ → ReadReturn
read_bytes bytes state note =
    let t = read_call bytes in
    if length state == state_length
    then read_return (code_of t.answer.outcome) (state_bytes t.answer.state) (length t.note)
    else read_return unfit state note

-- ---- the writer
-- the returned number, and the lent record
pub record WriteReturn : Type 0 where
  pub code : ℕ
  pub lent : List ℕ

abbrev pub write_return : ℕ → List ℕ → WriteReturn
write_return code lent = record { code = code; lent = lent }

unfoldable pub write_bytes : List ℕ → List ℕ → WriteReturn
write_bytes state lent =
    let w = write_call (state_in state) lent in
    if length state == state_length then write_return (code_of w.outcome) w.lent else write_return unfit lent
