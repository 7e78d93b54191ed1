-- Calls, and lists of them (docs/BENCH.md, "Lists of calls"): each call is given the state that the last one gave back.
use Rattle.std.specs.Prelude.{◌≡◌, Ok, Bool, true, false, if◌then◌else◌, ◌||◌, List, [], ◌∷◌, ℕ, ℤ, slice_index_or}
use Rattle.std.specs.Int.{w16}
use Rattle.std.proofs.Common.{SFits}
use Rattle.lists.specs.Lists.{at}
use Rattle.state.specs.declared.State.{State}
use Rattle.state.specs.State.{WellFormed, state_outcome}
use Rattle.outcome.specs.Outcome.{is_accepted}
use Rattle.kinds.specs.Kind.{SheetKind, FrameSheet, IndexSheet, ErasedSheet, kind_of}
use Rattle.mr74.specs.Frame.{Trace, call_trace, result_of, energies_result_of, frame_call, index_call, erased_call}

-- a call brings its own kind of sheet, an index sheet's tables with it, and its own past energies, sheet and output, all of any length and content. (A frame sheet's
-- call goes by no energies.)
pub record Call : Type 0 where
  pub kind : SheetKind
  pub energies : List ℤ
  pub sheet : List ℤ
  pub out : List ℤ

abbrev pub trace_of : State → Call → Trace
trace_of s c = call_trace (kind_of c.kind) c.energies c.sheet s c.out

abbrev pub next_state : State → Call → State
next_state s c = (trace_of s c).next

unfoldable pub run_calls : State → List Call → List Trace
run_calls s [] = []
run_calls s (c ∷ cs) = trace_of s c ∷ run_calls (next_state s c) cs

unfoldable pub state_after : State → List Call → State
state_after s [] = s
state_after s (c ∷ cs) = state_after (next_state s c) cs

-- ---- what the list's answers say
abbrev pub accepted : Trace → Bool
accepted t = is_accepted t.outcome

-- some call was accepted
unfoldable pub any_accepted : List Trace → Bool
any_accepted [] = false
any_accepted (t ∷ ts) = accepted t || any_accepted ts

-- the place of the last subframe of the latest accepted call; `before` where there is none
unfoldable pub latest_place : ℕ → List Trace → ℕ
latest_place before [] = before
latest_place before (t ∷ ts) = latest_place (if accepted t then slice_index_or t.places 3 40 else before) ts

-- ---- what a call leaves of a well-formed state. The theorems are `next_accepted` and `next_well_formed` in proofs/Calls.antt
-- an accepted call of any kind leaves an accepted state,
abbrev pub NextAccepted : Type 0
NextAccepted = (s : State) (c : Call) → WellFormed s → accepted (trace_of s c) ≡ true → state_outcome (next_state s c) ≡ Ok tt

-- and any call a well-formed one; of a frame sheet, whose gains go on, where its numbers have 16 bits
abbrev pub SheetFits : Call → Type 0
SheetFits c = c.kind ≡ FrameSheet → (k : ℕ) → SFits w16 (at c.sheet k)

abbrev pub NextWellFormed : Type 0
NextWellFormed = (s : State) (c : Call) → WellFormed s → SheetFits c → WellFormed (next_state s c)

-- ---- what a call gives is a projection of its trace: the frame call's of any energies, and the two others'. The theorem is `answers_traced` in proofs/Answers.antt
abbrev pub call_of : SheetKind → List ℤ → List ℤ → List ℤ → Call
call_of kind energies sheet out = record { kind = kind; energies = energies; sheet = sheet; out = out }

pub record Traced (logs pows energies sheet : List ℤ) (s : State) (out : List ℤ) : Type 0 where
  pub frame : frame_call sheet s out ≡ result_of (trace_of s (call_of FrameSheet energies sheet out))
  pub index : index_call logs pows energies sheet s out ≡ energies_result_of (trace_of s (call_of (IndexSheet logs pows) energies sheet out))
  pub erased : erased_call energies sheet s out ≡ energies_result_of (trace_of s (call_of ErasedSheet energies sheet out))

abbrev pub AnswersTraced : Type 0
AnswersTraced = (logs pows energies sheet : List ℤ) (s : State) (out : List ℤ) → Traced logs pows energies sheet s out
