-- The index calls of specs/Indexed.antt: the gains computed from the definition, the frame itself stays shut; `index_is_frame`, `accepted_exactly` and
-- `every_list_as_measured`, applied.
use Rattle.std.proofs.Common.{◌≡◌, refl, ap, true, false, [], ◌∷◌, lit<}
use Rattle.std.specs.Prelude.{Ok}
use Rattle.lists.specs.Lists.{iter}
use Rattle.basicop.specs.Ops.{clamp, asr, wrap, add, sub, mult, shl, l_add, l_sub, l_mult, l_shl, l_shr_r, l_deposit_h, doublings, norm_l, l_extract, mpy_32_16}
use Rattle.pitch.specs.Lag.{absolute, lag_min, relative}
use Rattle.excitation.specs.Excitation.{sharpened, sharpening}
use Rattle.energy.specs.Energy.{squares}
use Rattle.outcome.specs.Outcome.{is_accepted}
use Rattle.outcome.specs.Checks.{first_met, first_outside, first_close}
use Rattle.gain_concealment.specs.Concealment.{updated, good_gains}
use Rattle.state.specs.Layout.{core_of, post_of, concealment_of, state_of}
use Rattle.logarithm.specs.Log2.{log2}
use Rattle.logarithm.specs.Pow2.{pow2}
use Rattle.gain_table.specs.Rows.{gain_table, gain_row}
use Rattle.gain.specs.Gain.{predicted_gain, code_gain, decoded_gains}
use Rattle.gain.specs.Call.{opening_energies}
use Rattle.gain.specs.Checks.{is_table}
use Rattle.kinds.specs.Kind.{IndexSheet, index_kind, call_outcome}
use Rattle.kinds.specs.Prepass.{prepared, prepared_after}
use Rattle.kinds.proofs.Accepted.{accepted_exactly}
use Rattle.mr74.specs.declared.FrameAnswer.{FrameAnswer}
use Rattle.mr74.specs.Frame.{call_trace, frame_call, index_call}
use Rattle.mr74.specs.Indexed.{decoded_sheet, SameAsFrame}
use Rattle.mr74.proofs.Indexed.{index_is_frame}
use Rattle.calls.specs.Calls.{trace_of, next_state, accepted}
use Rattle.applied.specs.Examples.{silent}
use Rattle.applied.specs.CallList.{AsPlaced}
use Rattle.applied.specs.Gains.{log_table, pow_table}
use Rattle.applied.specs.Indexed.{index_sheet, out, indexed, gains_sheet, energies_left, IndexedValues, IndexedApplied, index_ordered, IndexOrder, tabled_call, tableless_call, IndexedList}
use Rattle.applied.proofs.Examples.{example}
use Rattle.applied.proofs.CallList.{two_calls, by_place}

index_accepted : call_outcome (index_kind log_table pow_table) index_sheet silent 160 ≡ Ok tt
unfolding silent index_sheet log_table pow_table state_of core_of post_of concealment_of first_met first_outside first_close is_table call_outcome
index_accepted = refl

sheet_is : decoded_sheet log_table pow_table opening_energies index_sheet silent ≡ gains_sheet
unfolding iter clamp asr wrap add sub mult shl l_add l_sub l_mult l_shl l_shr_r l_deposit_h doublings norm_l l_extract mpy_32_16 absolute lag_min relative sharpened sharpening squares log2 pow2 gain_table gain_row predicted_gain code_gain decoded_gains state_of core_of post_of concealment_of updated good_gains silent index_sheet gains_sheet log_table pow_table
sheet_is = refl

energies_are : (prepared (index_kind log_table pow_table) opening_energies index_sheet silent).energies ≡ energies_left
unfolding gain_table gain_row decoded_gains prepared_after silent index_sheet
energies_are = refl

pub indexed_values : IndexedValues
unfolding index_call call_trace
indexed_values = record { accepted = index_accepted; sheet = sheet_is; energies = rw index_accepted energies_are }

same : SameAsFrame log_table pow_table opening_energies index_sheet silent out
same = index_is_frame log_table pow_table opening_energies index_sheet silent out (ap is_accepted index_accepted)

same_answer : indexed.answer.frame ≡ (frame_call gains_sheet silent out).answer
same_answer = rw sheet_is at same.answer

pub indexed_applied : IndexedApplied
indexed_applied =
    record {
      frame_accepted = rw sheet_is at same.accepted;
      trace = rw sheet_is at same.trace;
      outcome = ap (λ (a : FrameAnswer). a.outcome) same_answer;
      rows = ap (λ (a : FrameAnswer). a.rows) same_answer;
      places = ap (λ (a : FrameAnswer). a.places) same_answer;
      next = ap (λ (a : FrameAnswer). a.next) same_answer;
      samples = rw sheet_is at same.lent;
      shown =
          λ x y u v w rest logs pows s h.
          let k = (accepted_exactly (IndexSheet (u ∷ logs) (v ∷ w ∷ pows)) (x ∷ y ∷ rest) s 160).shown h in
          (k.gaps.first, k.gaps.later 0 (lit< tt), (k.own.1.0.range 0 (lit< tt)).0, k.own.1.1.0.rises 0 (lit< tt));
      indices =
          λ sheet logs pows s h.
          let k = (accepted_exactly (IndexSheet logs pows) sheet s 160).shown h in
          ((k.own.1.1.1 0 (lit< tt)).0, (k.own.1.1.1 3 (lit< tt)).1);
    }

pub index_order : IndexOrder
unfolding index_ordered log_table pow_table state_of core_of post_of concealment_of first_met first_outside first_close is_table call_outcome
index_order = refl

-- ---- the theorem over lists of calls
first_accepted : accepted (trace_of silent tabled_call) ≡ true
unfolding call_trace
first_accepted = rw index_accepted refl

second_refused : accepted (trace_of (next_state silent tabled_call) tableless_call) ≡ false
unfolding call_trace call_outcome first_met first_outside first_close is_table index_sheet
second_refused = refl

pub indexed_list : IndexedList
indexed_list =
    two_calls silent example.well_formed example.state tabled_call tableless_call [] _ AsPlaced AsPlaced AsPlaced AsPlaced first_accepted second_refused refl
    (by_place _)
    (by_place _)
    (by_place _)
    (by_place _)
