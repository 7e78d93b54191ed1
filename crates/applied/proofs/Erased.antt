-- The erased frames of specs/Erased.antt: what the sheets come to, computed from the definition; `accepted_exactly`, `erased_gains`, `sorted_kept`, `median_of_any`,
-- `concealed_in_range`, `next_accepted`, `next_well_formed`, `fields_placed`, `index_is_frame` and `every_list_as_measured`, applied.
use Rattle.std.proofs.Common.{◌≡◌, refl, ap, ◌∙◌, true, false, List, [], ◌∷◌, map, lit<, ℤ, pos, replicate}
use mathlib.Core.List.{flat_map}
use mathlib.Core.List.Perm
use lib.Signed.{le_z_yes}
use Rattle.std.specs.Prelude.{Ok}
use Rattle.lists.specs.Lists.{iter, tab, Every}
use Rattle.lists.proofs.Entries.{every_map}
use Rattle.basicop.specs.Ops.{clamp, asr, wrap, add, sub, mult, shl, l_add, l_sub, l_mult, l_shl, l_shr_r, l_deposit_h, doublings, norm_l, div_s, l_extract, mpy_32_16}
use Rattle.pitch.specs.Lag.{absolute, lag_min, relative, concealed_lag}
use Rattle.spectral.specs.Lsp.{cosine, between, lsp_of}
use Rattle.lpc.specs.Rows.{raised_at, polynomial, row_of, rows_of}
use Rattle.adaptive.specs.Predict.{inter6, phase, start, interpolated, extended, predicted}
use Rattle.excitation.specs.Excitation.{sharpened, sharpening, feedback}
use Rattle.energy.specs.Energy.{squares, energy}
use Rattle.energy.specs.Gain.{energy_gain, agc2, controlled, agc}
use Rattle.energy.specs.Root.{inverse_table, root_scaled, inverse_root}
use Rattle.synthesis.specs.Recursion.{outside, recursion, step_numbers, some_outside, some_list_outside, first_list_outside}
use Rattle.synthesis.specs.Synthesis.{acc, accs}
use Rattle.decoder.specs.Enhance.{enhanced, first_excitation}
use Rattle.decoder.specs.Subframe.{synthesis_result}
use Rattle.decoder.specs.Core.{excitations, subframe_result, subframe_results, core_result}
use Rattle.postfilter.specs.Weight.{numerator, denominator, weighted}
use Rattle.postfilter.specs.Residual.{residual_sum, residual}
use Rattle.postfilter.specs.Tilt as tilts
use Rattle.postfilter.specs.Preemphasis.{preemphasised}
use Rattle.postfilter.specs.Postfilter.{filter_result, postfilter_result}
use Rattle.basicop.specs.declared.Q14.{Q14}
use Rattle.decoder.specs.Inputs.{SubframeInputs}
use Rattle.outcome.specs.Outcome.{is_accepted}
use Rattle.outcome.specs.Checks.{first_met, first_outside, first_close}
use Rattle.gain_table.specs.Rows.{gain_table, gain_row}
use Rattle.gain.specs.Checks.{is_table}
use Rattle.gain.specs.Gain.{decoded_gains, average_energy}
use Rattle.gain.specs.Call.{opening_energies}
use Rattle.gain_concealment.specs.Median.{inserted, sorted}
use Rattle.gain_concealment.specs.Concealment.{updated, concealed_gains, good_gains}
use Rattle.gain_concealment.specs.Laws.{Kept}
use Rattle.gain_concealment.proofs.Sorting.{sorted_kept, median_of_any}
use Rattle.gain_concealment.proofs.Ranges.{concealed_in_range}
use Rattle.state.specs.declared.Concealment.{Concealment}
use Rattle.state.specs.declared.State.{State}
use Rattle.state.specs.State.{Fields, WellFormed, state_outcome}
use Rattle.state.proofs.Numbers.{fields_placed}
use Rattle.state.specs.Layout.{core_of, post_of, concealment_numbers, concealment_of, state_of}
use Rattle.kinds.specs.Kind.{ErasedSheet, index_kind, erased_kind, call_outcome}
use Rattle.kinds.specs.declared.GainMemory.{GainMemory}
use Rattle.kinds.specs.Prepass.{prepared_after, prepared}
use Rattle.kinds.specs.Accepted.{CallKept}
use Rattle.kinds.specs.Laws as laws
use Rattle.kinds.proofs.Accepted.{accepted_exactly}
use Rattle.kinds.proofs.GainLaws.{erased_gains}
use Rattle.mr74.specs.Frame.{call_trace, erased_call}
use Rattle.mr74.proofs.Indexed.{index_is_frame}
use Rattle.calls.specs.Calls.{trace_of, next_state, accepted, SheetFits}
use Rattle.calls.proofs.Calls.{next_accepted, next_well_formed}
use Rattle.applied.specs.Examples.{silent}
use Rattle.applied.specs.CallList.{AsPlaced}
use Rattle.applied.specs.Gains.{log_table, pow_table}
use Rattle.applied.specs.Indexed.{index_sheet, out}
use Rattle.applied.specs.Erased.{erased_sheet, good_sheet, lost, lost_result, ErasedValues, erased_ordered, ErasedOrder, fives, lost_call, GainsIn, ErasedApplied, stage_7, later_calls, after_lost, HeldIndexed, ErasedList}
use Rattle.applied.proofs.Accepting.{SheetPasses, accepted_at}
use Rattle.applied.proofs.Concrete.{fits_by}
use Rattle.applied.proofs.Examples.{example}
use Rattle.applied.proofs.CallList.{two_calls, by_place}

lost_accepted : call_outcome erased_kind (erased_sheet (pos 0)) silent 160 ≡ Ok tt
unfolding silent erased_sheet state_of core_of post_of concealment_of first_met first_outside first_close call_outcome
lost_accepted = refl

-- the call gives what the sheet comes to
fields_are : lost_result.answer.frame.next.concealment ≡ lost.concealment
unfolding erased_call call_trace
fields_are = rw lost_accepted refl

energies_are : lost_result.answer.gain_decoder.energies ≡ lost.energies
unfolding erased_call call_trace
energies_are = rw lost_accepted refl

silence : lost_result.lent ≡ replicate 160 (pos 0)
unfolding flat_map iter tab clamp asr wrap add sub mult shl l_add l_sub l_mult l_shl l_shr_r l_deposit_h doublings norm_l div_s l_extract mpy_32_16 absolute lag_min relative cosine between lsp_of raised_at polynomial row_of rows_of inter6 phase start interpolated extended predicted sharpened sharpening feedback squares energy energy_gain agc2 inverse_table root_scaled inverse_root outside recursion step_numbers some_outside some_list_outside first_list_outside acc accs enhanced first_excitation synthesis_result excitations subframe_result subframe_results core_result first_met state_of core_of post_of concealment_of updated prepared_after erased_call call_trace concealed_gains inserted sorted concealed_lag first_outside first_close call_outcome erased_sheet silent numerator denominator weighted residual_sum residual tilts.impulse tilts.correlation tilts.tilt_of tilts.tilt preemphasised filter_result postfilter_result agc controlled
silence = refl

pub erased_values : ErasedValues
unfolding silent erased_sheet good_sheet state_of core_of post_of concealment_of concealment_numbers iter clamp asr add sub mult absolute lag_min relative concealed_lag average_energy inserted sorted updated concealed_gains good_gains prepared_after
erased_values =
    record {
      accepted = lost_accepted;
      lost_subframes = refl;
      lost_fields = ap (λ (c : Concealment). concealment_numbers c) fields_are ∙ refl;
      samples = silence;
      energies = energies_are ∙ refl;
      clamped_energies = refl;
      good_fields = refl;
      later_subframes = refl;
      held_pitch = refl;
      held_code = refl;
      held_fields = refl;
    }

pub erased_order : ErasedOrder
unfolding erased_ordered state_of core_of post_of concealment_of first_met first_outside first_close call_outcome
erased_order = refl

-- ---- the theorems
fives_kept : Kept fives
fives_kept =
    record {
      pitch_history = (le_z_yes tt, (le_z_yes tt, (le_z_yes tt, (le_z_yes tt, (le_z_yes tt, tt)))));
      code_history = (le_z_yes tt, (le_z_yes tt, (le_z_yes tt, (le_z_yes tt, (le_z_yes tt, tt)))));
      past = record { pitch = le_z_yes tt; code = le_z_yes tt };
      last_good = record { pitch = le_z_yes tt; code = le_z_yes tt };
    }

erased_fits : SheetFits lost_call
unfolding erased_sheet
erased_fits e = fits_by (erased_sheet (pos 0)) refl

call_accepted : accepted (trace_of silent lost_call) ≡ true
unfolding call_trace
call_accepted = rw lost_accepted refl

call_next : next_state silent lost_call ≡ after_lost
unfolding erased_call
call_next = refl

next_formed : WellFormed (next_state silent lost_call)
next_formed = next_well_formed silent lost_call example.well_formed erased_fits

placed : Fields after_lost
placed = fields_placed after_lost (rw call_next at next_formed)

erased_shown : (sheet : List ℤ) (s : State) → is_accepted (call_outcome erased_kind sheet s 160) ≡ true → CallKept ErasedSheet sheet s 160
erased_shown sheet s h = (accepted_exactly ErasedSheet sheet s 160).shown h

gains_in : (energies sheet : List ℤ) → is_accepted (call_outcome erased_kind sheet silent 160) ≡ true → Every GainsIn (prepared erased_kind energies sheet silent).inputs.subframes
gains_in energies sheet h =
    every_map (λ (p : SubframeInputs) (g : laws.GainsIn p). record { pitch = g.pitch; code = g.code }) (prepared erased_kind energies sheet silent).inputs.subframes
    (erased_gains energies sheet silent 160 example.well_formed h)

pub erased_applied : ErasedApplied
unfolding sorted inserted
erased_applied =
    let r = concealed_in_range (pos 6) fives fives_kept (le_z_yes tt) (le_z_yes tt) in
    record {
      shown = λ x y rest s h. let g = (erased_shown (x ∷ y ∷ rest) s h).gaps in (g.first, g.later 0 (lit< tt));
      stage = λ sheet s h. (erased_shown sheet s h).own;
      least = (sorted_kept fives.code_history).rises 0 (lit< tt);
      exchanged = λ x y. median_of_any (x ∷ y ∷ pos 4 ∷ pos 2 ∷ pos 3 ∷ []) (y ∷ x ∷ pos 4 ∷ pos 2 ∷ pos 3 ∷ []) (Perm.swap y x _);
      pitch = r.pitch;
      code = r.code;
      gains = gains_in;
      next_accepted = next_accepted silent lost_call example.well_formed call_accepted;
      next_well_formed = next_formed;
      last_lag = placed.last_lag;
      fields = placed.gains;
    }

-- ---- an index frame after the erased one
state_accepts : state_outcome after_lost ≡ Ok tt
state_accepts = rw call_next at erased_applied.next_accepted

index_passes : SheetPasses (index_kind log_table pow_table) index_sheet
unfolding index_sheet log_table pow_table first_met first_outside first_close is_table
index_passes = record { lengths = refl; lsfs = refl; own = refl }

index_accepted : call_outcome (index_kind log_table pow_table) index_sheet after_lost 160 ≡ Ok tt
index_accepted = accepted_at (index_kind log_table pow_table) index_sheet index_passes after_lost state_accepts

marked : lost.concealment.erased ≡ pos 1
unfolding prepared_after
marked = refl

-- whatever the sharpening, the pitch gains are held to 0
abbrev pitch_gains : Q14 → Concealment → List ℤ
pitch_gains sharpening c =
    let m : GainMemory = record { sharpening = sharpening; gain_decoder = record { energies = opening_energies }; concealment = c.gains } in
    map (λ (s : SubframeInputs). s.pitch) (prepared_after (index_kind log_table pow_table) index_sheet c m).inputs.subframes

nothing_left : (sharpening : Q14) → pitch_gains sharpening lost.concealment ≡ replicate 4 (pos 0)
unfolding silent erased_sheet state_of core_of post_of concealment_of iter clamp asr add sub mult concealed_lag inserted sorted updated concealed_gains good_gains prepared_after index_sheet gain_table gain_row decoded_gains absolute lag_min relative
nothing_left sharpening = refl

pub held_indexed : HeldIndexed
held_indexed =
    let same = index_is_frame log_table pow_table opening_energies index_sheet after_lost out (ap is_accepted index_accepted) in
    record {
      mark = ap (λ (c : Concealment). c.erased) fields_are ∙ marked;
      accepted = index_accepted;
      pitch = ap (pitch_gains after_lost.core.sharpening) fields_are ∙ nothing_left after_lost.core.sharpening;
      frame_accepted = same.accepted;
      trace = same.trace;
    }

-- ---- the theorem over lists of calls
second_refused : accepted (trace_of (next_state silent lost_call) stage_7) ≡ false
unfolding call_trace call_outcome first_met first_outside first_close erased_sheet
second_refused = refl

pub erased_list : ErasedList
erased_list =
    two_calls silent example.well_formed example.state lost_call stage_7 later_calls _ AsPlaced AsPlaced AsPlaced AsPlaced call_accepted second_refused refl
    (by_place _)
    (by_place _)
    (by_place _)
    (by_place _)
