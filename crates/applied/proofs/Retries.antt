-- The index frame and the erased frame of specs/Retries.antt, computed from the definition; `every_list_as_measured` and `every_division`, applied.
use Rattle.std.proofs.Common.{◌≡◌, refl, sym, ap, ◌∙◌, true, false, [], ◌∷◌, pos, length, replicate, get_or}
use mathlib.Core.List.{flat_map}
use Rattle.std.specs.Prelude.{Ok}
use Rattle.lists.specs.Lists.{minus, at, iter, tab}
use Rattle.basicop.specs.Ops.{clamp, asr, wrap, add, sub, mult, shl, l_add, l_sub, l_mult, l_shl, l_shr_r, l_deposit_h, doublings, norm_l, div_s, l_extract, mpy_32_16}
use Rattle.pitch.specs.Lag.{absolute, lag_min, relative, concealed_lag}
use Rattle.spectral.specs.Lsp.{cosine, between, lsp_of}
use Rattle.lpc.specs.Rows.{raised_at, polynomial, row_of, rows_of}
use Rattle.adaptive.specs.Predict.{inter6, phase, start, interpolated, extended, predicted}
use Rattle.excitation.specs.Excitation.{sharpened, sharpening, feedback}
use Rattle.energy.specs.Energy.{squares, energy}
use Rattle.energy.specs.Gain.{energy_gain, agc2, controlled, agc}
use Rattle.energy.specs.Root.{inverse_table, root_scaled, inverse_root}
use Rattle.synthesis.specs.Recursion.{outside, recursion, step_numbers, some_outside, some_list_outside, first_list_outside}
use Rattle.synthesis.specs.Synthesis.{acc, accs}
use Rattle.decoder.specs.Enhance.{enhanced, first_excitation}
use Rattle.decoder.specs.Subframe.{synthesis_result}
use Rattle.decoder.specs.Core.{excitations, subframe_result, subframe_results, core_result}
use Rattle.postfilter.specs.Weight.{numerator, denominator, weighted}
use Rattle.postfilter.specs.Residual.{residual_sum, residual}
use Rattle.postfilter.specs.Tilt as tilts
use Rattle.postfilter.specs.Preemphasis.{preemphasised}
use Rattle.postfilter.specs.Postfilter.{filter_result, postfilter_result}
use Rattle.outcome.specs.Checks.{first_met, first_outside, first_close}
use Rattle.state.specs.declared.State.{State}
use Rattle.state.specs.State.{WellFormed, state_outcome}
use Rattle.state.specs.Layout.{core_of, post_of, concealment_of, state_of}
use Rattle.gain_concealment.specs.Concealment.{updated, concealed_gains, good_gains}
use Rattle.decoder.specs.Subframe.{flag_of}
use Rattle.outcome.specs.Outcome.{is_accepted}
use Rattle.logarithm.specs.Log2.{log2}
use Rattle.logarithm.specs.Pow2.{pow2}
use Rattle.gain_table.specs.Rows.{gain_table, gain_row}
use Rattle.gain.specs.Gain.{predicted_gain, code_gain, decoded_gains, average_energy}
use Rattle.gain.specs.Call.{opening_energies}
use Rattle.gain.specs.Checks.{is_table}
use Rattle.gain_concealment.specs.Median.{inserted, sorted}
use Rattle.kinds.specs.Kind.{index_kind, erased_kind, call_outcome}
use Rattle.kinds.specs.Prepass.{prepared, prepared_after}
use Rattle.mr74.specs.Frame.{call_trace}
use Rattle.mr74.proofs.Divisions.{every_division}
use Rattle.calls.specs.Calls.{trace_of, next_state, state_after, accepted}
use Rattle.applied.specs.Examples.{silent, Seen, seen}
use Rattle.applied.specs.CallList.{RetriedIn, Unretried, TwoCalls}
use Rattle.applied.specs.Gains.{log_table, pow_table}
use Rattle.applied.specs.Indexed.{index_sheet, out, tableless_call}
use Rattle.applied.specs.Erased.{erased_sheet, stage_7}
use Rattle.applied.specs.Retries.{loud_energies, loud_index, loud_index_call, index_seen, IndexRetries, voiced_numbers, voiced, loud_erased, loud_erased_call, erased_seen, ErasedRetries}
use Rattle.applied.proofs.Concrete.{numbers_well_formed, words_by}
use Rattle.applied.proofs.Examples.{example}
use Rattle.applied.proofs.CallList.{two_calls, retried_in, unretried, latest_is}

-- ---- the index frame
index_seen_is : seen (trace_of silent loud_index_call) ≡ index_seen
unfolding flat_map iter tab clamp asr wrap add sub mult shl l_add l_sub l_mult l_shl l_shr_r l_deposit_h doublings norm_l div_s l_extract mpy_32_16 absolute lag_min relative cosine between lsp_of raised_at polynomial row_of rows_of inter6 phase start interpolated extended predicted sharpened sharpening feedback squares energy energy_gain agc2 inverse_table root_scaled inverse_root outside recursion step_numbers some_outside some_list_outside first_list_outside acc accs enhanced first_excitation synthesis_result excitations subframe_result subframe_results core_result first_met state_of core_of post_of concealment_of updated good_gains prepared_after first_outside first_close call_outcome call_trace numerator denominator weighted residual_sum residual tilts.impulse tilts.correlation tilts.tilt_of tilts.tilt preemphasised filter_result postfilter_result agc controlled log2 pow2 gain_table gain_row predicted_gain code_gain decoded_gains is_table log_table pow_table silent loud_index
index_seen_is = refl

index_accepted : is_accepted (call_outcome (index_kind log_table pow_table) loud_index silent 160) ≡ true
unfolding call_outcome first_met first_outside first_close is_table log_table pow_table loud_index silent state_of core_of post_of concealment_of
index_accepted = refl

index_energies : (prepared (index_kind log_table pow_table) loud_energies loud_index silent).energies ≡ pos 18494 ∷ pos 9221 ∷ pos 18494 ∷ pos 18494 ∷ []
unfolding gain_table gain_row decoded_gains prepared_after silent loud_index
index_energies = refl

index_left : (trace_of silent loud_index_call).energies ≡ (prepared (index_kind log_table pow_table) loud_energies loud_index silent).energies
unfolding call_trace
index_left = rw index_accepted refl

tableless_refused : accepted (trace_of (next_state silent loud_index_call) tableless_call) ≡ false
unfolding call_trace call_outcome first_met first_outside first_close is_table index_sheet
tableless_refused = refl

index_list : TwoCalls silent loud_index_call tableless_call [] index_seen.places (RetriedIn 2) (RetriedIn 0) Unretried (RetriedIn 36)
index_list =
    two_calls silent example.well_formed example.state loud_index_call tableless_call [] index_seen.places (RetriedIn 2) (RetriedIn 0) Unretried (RetriedIn 36)
    (ap (λ (e : Seen). e.accepted) index_seen_is)
    tableless_refused
    (ap (λ (e : Seen). e.places) index_seen_is)
    (retried_in 2 refl)
    (retried_in 0 refl)
    unretried
    (retried_in 36 refl)

pub index_retries : IndexRetries
unfolding state_after
index_retries =
    let l = index_list in
    let latest = latest_is silent loud_index_call tableless_call 36 l.accepted_call.accepts tableless_refused (ap (λ (e : Seen). get_or e.places 3 40) index_seen_is) in
    let past = l.past (ap flag_of latest) in
    record {
      call = index_seen_is;
      energies = index_left ∙ index_energies;
      list = l;
      latest = latest;
      past = past.0;
      past_range = past.1;
      newest = ap (λ (s : State). at s.core.past 153) l.refused_call.state ∙ ap (λ (e : Seen). e.newest) index_seen_is;
      divisions =
          sym (every_division (index_kind log_table pow_table) loud_energies loud_index silent out index_accepted)
          ∙ ap (λ (e : Seen). length e.quotients) index_seen_is;
    }

-- ---- the erased frame
voiced_formed : WellFormed voiced
unfolding voiced
voiced_formed = numbers_well_formed voiced_numbers (words_by voiced_numbers 213 refl refl)

voiced_accepted : state_outcome voiced ≡ Ok tt
unfolding voiced state_of core_of post_of concealment_of state_outcome first_met first_outside
voiced_accepted = refl

erased_seen_is : seen (trace_of voiced loud_erased_call) ≡ erased_seen
unfolding flat_map iter tab clamp asr wrap add sub mult shl l_add l_sub l_mult l_shl l_shr_r l_deposit_h doublings norm_l div_s l_extract mpy_32_16 absolute lag_min relative cosine between lsp_of raised_at polynomial row_of rows_of inter6 phase start interpolated extended predicted sharpened sharpening feedback squares energy energy_gain agc2 inverse_table root_scaled inverse_root outside recursion step_numbers some_outside some_list_outside first_list_outside acc accs enhanced first_excitation synthesis_result excitations subframe_result subframe_results core_result first_met state_of core_of post_of concealment_of updated prepared_after first_outside first_close call_outcome call_trace numerator denominator weighted residual_sum residual tilts.impulse tilts.correlation tilts.tilt_of tilts.tilt preemphasised filter_result postfilter_result agc controlled concealed_gains inserted sorted concealed_lag voiced loud_erased
erased_seen_is = refl

erased_accepted : is_accepted (call_outcome erased_kind loud_erased voiced 160) ≡ true
unfolding call_outcome first_met first_outside first_close loud_erased voiced state_of core_of post_of concealment_of
erased_accepted = refl

erased_energies : (prepared erased_kind opening_energies loud_erased voiced).energies ≡ replicate 4 (minus 8192)
unfolding prepared_after average_energy clamp asr add sub mult concealed_lag voiced iter
erased_energies = refl

erased_left : (trace_of voiced loud_erased_call).energies ≡ (prepared erased_kind opening_energies loud_erased voiced).energies
unfolding call_trace
erased_left = rw erased_accepted refl

stage_refused : accepted (trace_of (next_state voiced loud_erased_call) stage_7) ≡ false
unfolding call_trace call_outcome first_met first_outside first_close erased_sheet
stage_refused = refl

erased_list : TwoCalls voiced loud_erased_call stage_7 [] erased_seen.places (RetriedIn 2) Unretried Unretried (RetriedIn 29)
erased_list =
    two_calls voiced voiced_formed voiced_accepted loud_erased_call stage_7 [] erased_seen.places (RetriedIn 2) Unretried Unretried (RetriedIn 29)
    (ap (λ (e : Seen). e.accepted) erased_seen_is)
    stage_refused
    (ap (λ (e : Seen). e.places) erased_seen_is)
    (retried_in 2 refl)
    unretried
    unretried
    (retried_in 29 refl)

pub erased_retries : ErasedRetries
unfolding state_after
erased_retries =
    let l = erased_list in
    let latest = latest_is voiced loud_erased_call stage_7 29 l.accepted_call.accepts stage_refused (ap (λ (e : Seen). get_or e.places 3 40) erased_seen_is) in
    let past = l.past (ap flag_of latest) in
    record {
      well_formed = voiced_formed;
      state = voiced_accepted;
      call = erased_seen_is;
      energies = erased_left ∙ erased_energies;
      list = l;
      latest = latest;
      past = past.0;
      past_range = past.1;
      newest = ap (λ (s : State). at s.core.past 153) l.refused_call.state ∙ ap (λ (e : Seen). e.newest) erased_seen_is;
      divisions = sym (every_division erased_kind opening_energies loud_erased voiced out erased_accepted) ∙ ap (λ (e : Seen). length e.quotients) erased_seen_is;
    }
