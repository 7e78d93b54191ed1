-- What is promised of each kind of sheet (kinds/specs/Accepted.antt and Laws.antt, mr74/specs/Sharpening.antt, calls/specs/Calls.antt) applied to sheets and calls of each
-- kind, with what it comes to written out in numbers. The theorems are in proofs/Promised.antt.
use Rattle.std.specs.Prelude.{◌≡◌, Ok, Err, true, List, [], ◌∷◌, ◌++◌, map, ℕ, ℤ, pos, ◌+ℤ◌, length, replicate, ◌≤ℤ◌}
use Rattle.lists.specs.Lists.{minus, at, Every}
use Rattle.pitch.specs.Lag.{Lag}
use Rattle.excitation.specs.Excitation.{sharpened}
use Rattle.decoder.specs.Inputs.{SubframeInputs}
use Rattle.decoder.specs.Core.{SubframeResult}
use Rattle.outcome.specs.declared.Refusal.TheVariants.{Table, Stage}
use Rattle.outcome.specs.Outcome.{is_accepted}
use Rattle.gain.specs.declared.GainAnswer.{GainAnswer}
use Rattle.gain.specs.Call.{opening_energies, gain_call}
use Rattle.state.specs.declared.State.{State}
use Rattle.state.specs.State.{WellFormed, state_outcome}
use Rattle.kinds.specs.declared.GainMemory.{GainMemory}
use Rattle.kinds.specs.Kind.{Kind, frame_kind, index_kind, erased_kind, call_outcome}
use Rattle.kinds.specs.Prepass.{opened_memory, prepared}
use Rattle.mr74.specs.Frame.{EnergiesResult, Trace, frame_call, index_call, erased_call}
use Rattle.calls.specs.Calls.{trace_of, next_state}
use Rattle.applied.specs.Examples.{index_sheet_call, erased_sheet_call, silent, loud, call}
use Rattle.applied.specs.Gains.{log_table, pow_table}
use Rattle.applied.specs.Refusals.{lowest}
use Rattle.applied.specs.Indexed.{index_sheet, out, energies_left, tabled_call, tableless_call}
use Rattle.applied.specs.Erased.{erased_sheet, stage_7}
use Rattle.applied.specs.Retries.{loud_energies, loud_index, loud_index_call, voiced, loud_erased, loud_erased_call}
use Rattle.applied.specs.Held.{missed, changing, after_steady, after_missed, lowered}

-- ---- AcceptedExactly: what every accepted call has shown, whose sheet has n numbers
pub record Facts (n : ℕ) (sheet : List ℤ) (s : State) (room : ℕ) : Type 0 where
  pub count : length sheet ≡ n
  pub lent : room ≡ 160
  pub first : (pos 205 ≤ℤ at sheet 0) × (at sheet 0 ≤ℤ pos 16384)
  pub last : (pos 0 ≤ℤ at sheet 9) × (at sheet 9 ≤ℤ pos 16384)
  pub gaps : ((at sheet 0 +ℤ pos 205) ≤ℤ at sheet 1) × ((at sheet 8 +ℤ pos 205) ≤ℤ at sheet 9)
  pub sharpening : (pos 0 ≤ℤ s.core.sharpening.0) × (s.core.sharpening.0 ≤ℤ pos 13017)
  pub gain : pos 0 ≤ℤ s.post.gain.previous_gain
  pub fives : Every (λ (g : ℤ). pos 0 ≤ℤ g) s.concealment.gains.pitch_history × Every (λ (g : ℤ). pos 0 ≤ℤ g) s.concealment.gains.code_history
  pub past : (pos 0 ≤ℤ s.concealment.gains.past.pitch.0) × (pos 0 ≤ℤ s.concealment.gains.past.code.0)
  pub good : (pos 0 ≤ℤ s.concealment.gains.last_good.pitch.0) × (pos 0 ≤ℤ s.concealment.gains.last_good.code.0)
  pub mark : (pos 0 ≤ℤ s.concealment.erased) × (s.concealment.erased ≤ℤ pos 1)
  pub lag : (pos 19 ≤ℤ s.concealment.last_lag) × (s.concealment.last_lag ≤ℤ pos 144)

pub record PitchFacts (sheet : List ℤ) : Type 0 where
  pub a : (pos 0 ≤ℤ at sheet 10) × (at sheet 10 ≤ℤ pos 255)
  pub b : (pos 0 ≤ℤ at sheet 11) × (at sheet 11 ≤ℤ pos 31)
  pub c : (pos 0 ≤ℤ at sheet 12) × (at sheet 12 ≤ℤ pos 255)
  pub d : (pos 0 ≤ℤ at sheet 13) × (at sheet 13 ≤ℤ pos 31)

-- P is shown by every call of the kind that is accepted
abbrev pub Shows : Kind → (List ℤ → State → ℕ → Type 0) → Type 0
Shows kind P = (sheet : List ℤ) (s : State) (room : ℕ) → is_accepted (call_outcome kind sheet s room) ≡ true → P sheet s room

pub record FrameAccepted : Type 0 where
  pub facts : Shows frame_kind (Facts 182)
  pub pitch : Shows frame_kind (λ (sheet : List ℤ) (s : State) (room : ℕ). PitchFacts sheet)
  pub gains : Shows frame_kind (λ (sheet : List ℤ) (s : State) (room : ℕ). (pos 0 ≤ℤ at sheet 14) × (pos 0 ≤ℤ at sheet 21))
  -- and that is enough: of any first pitch index and first gain
  pub enough :
      (n g : ℤ) → pos 0 ≤ℤ n → n ≤ℤ pos 255 → pos 0 ≤ℤ g
      → call_outcome frame_kind (lowest ++ (n ∷ pos 0 ∷ pos 0 ∷ pos 0 ∷ g ∷ replicate 167 (pos 0))) silent 160 ≡ Ok tt

abbrev pub standard : Kind
standard = index_kind log_table pow_table

pub record IndexAccepted : Type 0 where
  pub facts : Shows standard (Facts 178)
  pub pitch : Shows standard (λ (sheet : List ℤ) (s : State) (room : ℕ). PitchFacts sheet)
  pub indices :
      Shows standard (λ (sheet : List ℤ) (s : State) (room : ℕ). ((pos 0 ≤ℤ at sheet 14) × (at sheet 14 ≤ℤ pos 127)) × ((pos 0 ≤ℤ at sheet 17) × (at sheet 17 ≤ℤ pos 127)))
  -- of tables of these numbers at their ends
  pub tables :
      (u v x y : ℤ) (logs pows sheet : List ℤ) (s : State) (room : ℕ) → is_accepted (call_outcome (index_kind (u ∷ v ∷ logs) (x ∷ y ∷ pows)) sheet s room) ≡ true
      → (length logs ≡ 31) × (length pows ≡ 31) × (pos 0 ≤ℤ u) × (u ≤ℤ v) × (v ≤ℤ pos 32767) × (x ≤ℤ y)
  -- of any first gain index
  pub enough :
      (n : ℤ) → pos 0 ≤ℤ n → n ≤ℤ pos 127
      → call_outcome standard (lowest ++ (pos 0 ∷ pos 0 ∷ pos 0 ∷ pos 0 ∷ n ∷ replicate 163 (pos 0))) silent 160 ≡ Ok tt

pub record ErasedAccepted : Type 0 where
  pub facts : Shows erased_kind (Facts 171)
  pub stage : Shows erased_kind (λ (sheet : List ℤ) (s : State) (room : ℕ). (pos 0 ≤ℤ at sheet 10) × (at sheet 10 ≤ℤ pos 6))
  -- of any stage, and 160 numbers of any size
  pub enough :
      (stage : ℤ) (innovation : List ℤ) → pos 0 ≤ℤ stage → stage ≤ℤ pos 6 → length innovation ≡ 160
      → call_outcome erased_kind (lowest ++ (stage ∷ innovation)) silent 160 ≡ Ok tt

-- ---- OwnGains: of the sheet of Examples.antt, on the state `silent`, whose mark is 0, whatever the energies
pub record OwnApplied : Type 0 where
  pub pitch :
      (energies : List ℤ)
      → map (λ (p : SubframeInputs). p.pitch) (prepared frame_kind energies loud silent).inputs.subframes
      ≡ pos 16384 ∷ pos 16384 ∷ pos 16384 ∷ pos 16384 ∷ []
  pub code :
      (energies : List ℤ)
      → map (λ (p : SubframeInputs). p.code) (prepared frame_kind energies loud silent).inputs.subframes
      ≡ pos 100 ∷ pos 100 ∷ pos 100 ∷ pos 32767 ∷ []

-- ---- IndexCallGains: of the index sheet of Indexed.antt, its first two subframes as the call of an index has them; and that the last is never turned back
abbrev pub answered : ℕ → ℕ → List ℤ → GainAnswer
answered pitch code energies =
    record { outcome = Ok tt; gains = record { pitch = record { 0 = pos pitch }; code = record { 0 = pos code } }; gain_decoder = record { energies = energies } }

abbrev pub begun : List ℤ
begun = pos 2000 ∷ replicate 39 (pos 0)

pub record IndexGainsApplied : Type 0 where
  pub first :
      gain_call log_table pow_table (pos 121) (sharpened (replicate 40 (pos 0)) (pos 21) (pos 0)) opening_energies
      ≡ answered 21318 32767 (pos 5816 ∷ minus 14336 ∷ minus 14336 ∷ minus 14336 ∷ [])
  pub second :
      gain_call log_table pow_table (pos 63) (sharpened begun (pos 21) (pos 13017)) (pos 5816 ∷ minus 14336 ∷ minus 14336 ∷ minus 14336 ∷ [])
      ≡ answered 10300 1413 (pos 12853 ∷ pos 5816 ∷ minus 14336 ∷ minus 14336 ∷ [])
  pub any : (lag : Lag) (m : GainMemory) → (gain_call log_table pow_table (pos 78) (sharpened begun lag.samples m.sharpening.0) m.gain_decoder.energies).outcome ≡ Ok tt
  -- IndexEnergies: of any tables, energies and state
  pub energies : (logs pows energies : List ℤ) (s : State) → (prepared (index_kind logs pows) energies index_sheet s).energies ≡ energies_left
  -- and so after its call
  pub left : (trace_of silent tabled_call).energies ≡ energies_left

-- ---- SharpeningIsCore: what the core leaves after each subframe: of a frame sheet whose gains are held, of an index sheet whose pitch gains are its own and one whose
-- are held, of an erased one
abbrev pub sharpenings_of : Trace → List ℤ
sharpenings_of t = map (λ (u : SubframeResult). u.next.sharpening.0) t.subframes

pub record SharpeningApplied : Type 0 where
  pub opened : (energies : List ℤ) (s : State) → (opened_memory energies s).sharpening.0 ≡ s.core.sharpening.0
  pub frame : sharpenings_of (trace_of after_missed changing) ≡ pos 8000 ∷ pos 7000 ∷ pos 7000 ∷ pos 7000 ∷ []
  pub index : sharpenings_of (trace_of silent tabled_call) ≡ pos 13017 ∷ pos 10300 ∷ pos 13017 ∷ pos 13017 ∷ []
  pub held : sharpenings_of (trace_of lowered tabled_call) ≡ pos 1000 ∷ pos 1000 ∷ pos 1000 ∷ pos 1000 ∷ []
  pub erased : sharpenings_of (trace_of after_steady missed) ≡ pos 7839 ∷ pos 7682 ∷ pos 7528 ∷ pos 7377 ∷ []

-- ---- AnswersTraced: what the three calls give is what their traces tell
pub record Told (r : EnergiesResult) (t : Trace) : Type 0 where
  pub outcome : r.answer.frame.outcome ≡ t.outcome
  pub rows : r.answer.frame.rows ≡ t.rows
  pub places : r.answer.frame.places ≡ t.places
  pub next : r.answer.frame.next ≡ t.next
  pub energies : r.answer.gain_decoder.energies ≡ t.energies
  pub lent : r.lent ≡ t.output

pub record AnswersApplied : Type 0 where
  -- the computed frame call, whatever energies its trace is given
  pub outcome : (frame_call loud silent out).answer.outcome ≡ Ok tt
  pub places : (frame_call loud silent out).answer.places ≡ 8 ∷ 40 ∷ 40 ∷ 19 ∷ []
  pub rows : (frame_call loud silent out).answer.rows ≡ (trace_of silent call).rows
  pub next : (frame_call loud silent out).answer.next ≡ next_state silent call
  pub lent : (frame_call loud silent out).lent ≡ (trace_of silent call).output
  pub unread : (energies : List ℤ) (s : State) → (frame_call [] s []).answer.outcome ≡ (trace_of s (record call { sheet = []; out = []; energies = energies })).outcome
  -- the two others
  pub index : Told (index_call log_table pow_table loud_energies loud_index silent out) (trace_of silent loud_index_call)
  pub index_places : (index_call log_table pow_table loud_energies loud_index silent out).answer.frame.places ≡ 2 ∷ 0 ∷ 40 ∷ 36 ∷ []
  pub index_energies : (index_call log_table pow_table loud_energies loud_index silent out).answer.gain_decoder.energies ≡ pos 18494 ∷ pos 9221 ∷ pos 18494 ∷ pos 18494 ∷ []
  pub erased : Told (erased_call opening_energies loud_erased voiced out) (trace_of voiced loud_erased_call)
  pub erased_places : (erased_call opening_energies loud_erased voiced out).answer.frame.places ≡ 2 ∷ 40 ∷ 40 ∷ 29 ∷ []
  pub erased_energies : (erased_call opening_energies loud_erased voiced out).answer.gain_decoder.energies ≡ replicate 4 (minus 8192)
  -- refused ones, of any state
  pub tableless : (s : State) → Told (index_call [] [] (pos 1 ∷ pos 100000 ∷ []) index_sheet s out) (trace_of s tableless_call)
  pub tableless_outcome : (s : State) → (index_call [] [] (pos 1 ∷ pos 100000 ∷ []) index_sheet s out).answer.frame.outcome ≡ Err (Table 0)
  pub tableless_energies : (s : State) → (index_call [] [] (pos 1 ∷ pos 100000 ∷ []) index_sheet s out).answer.gain_decoder.energies ≡ pos 1 ∷ pos 100000 ∷ []
  pub staged : (s : State) → Told (erased_call (pos 100000 ∷ []) (erased_sheet (pos 7)) s out) (trace_of s stage_7)
  pub staged_outcome : (s : State) → (erased_call (pos 100000 ∷ []) (erased_sheet (pos 7)) s out).answer.frame.outcome ≡ Err Stage
  pub staged_energies : (s : State) → (erased_call (pos 100000 ∷ []) (erased_sheet (pos 7)) s out).answer.gain_decoder.energies ≡ pos 100000 ∷ []

-- ---- NextAccepted, NextWellFormed: of an index call and an erased one, the second of sheets of any numbers
pub record NextApplied : Type 0 where
  pub index_accepted : state_outcome (next_state silent loud_index_call) ≡ Ok tt
  pub erased_accepted : state_outcome (next_state voiced loud_erased_call) ≡ Ok tt
  pub index_formed : (logs pows energies sheet lent : List ℤ) → WellFormed (next_state silent (index_sheet_call logs pows energies sheet lent))
  pub erased_formed : (energies sheet lent : List ℤ) → WellFormed (next_state voiced (erased_sheet_call energies sheet lent))
