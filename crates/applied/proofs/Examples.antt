-- The calls of specs/Examples.antt, computed from the definition.
use Rattle.std.proofs.Common.{◌≡◌, refl, ap, false, cond, ◌||◌, get_or}
use mathlib.Core.List.{flat_map}
use Rattle.lists.specs.Lists.{iter, tab}
use Rattle.basicop.specs.Ops.{clamp, asr, wrap, add, sub, mult, shl, l_add, l_sub, l_mult, l_shl, l_shr_r, l_deposit_h, doublings, norm_l, div_s, l_extract, mpy_32_16}
use Rattle.pitch.specs.Lag.{absolute, lag_min, relative}
use Rattle.spectral.specs.Lsp.{cosine, between, lsp_of}
use Rattle.lpc.specs.Rows.{raised_at, polynomial, row_of, rows_of}
use Rattle.adaptive.specs.Predict.{inter6, phase, start, interpolated, extended, predicted}
use Rattle.excitation.specs.Excitation.{sharpened, sharpening, feedback}
use Rattle.energy.specs.Energy.{squares, energy}
use Rattle.energy.specs.Gain.{energy_gain, agc2, controlled, agc}
use Rattle.energy.specs.Root.{inverse_table, root_scaled, inverse_root}
use Rattle.synthesis.specs.Recursion.{outside, recursion, step_numbers, some_outside, some_list_outside, first_list_outside}
use Rattle.synthesis.specs.Synthesis.{acc, accs}
use Rattle.decoder.specs.Enhance.{enhanced, first_excitation}
use Rattle.decoder.specs.Subframe.{synthesis_result}
use Rattle.decoder.specs.Core.{excitations, subframe_result, subframe_results, core_result}
use Rattle.postfilter.specs.Weight.{numerator, denominator, weighted}
use Rattle.postfilter.specs.Residual.{residual_sum, residual}
use Rattle.postfilter.specs.Tilt as tilts
use Rattle.postfilter.specs.Preemphasis.{preemphasised}
use Rattle.postfilter.specs.Postfilter.{filter_result, postfilter_result}
use Rattle.outcome.specs.Checks.{first_met, first_outside, first_close}
use Rattle.state.specs.State.{WellFormed, state_outcome}
use Rattle.state.specs.Layout.{core_of, post_of, concealment_of, state_of}
use Rattle.kinds.specs.Kind.{call_outcome}
use Rattle.kinds.specs.Prepass.{prepared_after}
use Rattle.gain_concealment.specs.Concealment.{updated, good_gains}
use Rattle.mr74.specs.Frame.{call_trace}
use Rattle.calls.specs.Calls.{trace_of, run_calls, any_accepted, latest_place}
use Rattle.applied.specs.Examples.{silent_numbers, silent, loud, call, Seen, seen, expected, Example, RefusedTrace}
use Rattle.applied.proofs.Concrete.{numbers_well_formed, words_by}

silent_well_formed : WellFormed silent
unfolding silent
silent_well_formed = numbers_well_formed silent_numbers (words_by silent_numbers 213 refl refl)

seen_is : seen (trace_of silent call) ≡ expected
unfolding flat_map iter tab clamp asr wrap add sub mult shl l_add l_sub l_mult l_shl l_shr_r l_deposit_h doublings norm_l div_s l_extract mpy_32_16 absolute lag_min relative cosine between lsp_of raised_at polynomial row_of rows_of inter6 phase start interpolated extended predicted sharpened sharpening feedback squares energy energy_gain agc2 inverse_table root_scaled inverse_root outside recursion step_numbers some_outside some_list_outside first_list_outside acc accs enhanced first_excitation synthesis_result excitations subframe_result subframe_results core_result first_met state_of core_of post_of concealment_of updated good_gains prepared_after first_outside first_close call_outcome call_trace loud silent numerator denominator weighted residual_sum residual tilts.impulse tilts.correlation tilts.tilt_of tilts.tilt preemphasised filter_result postfilter_result agc controlled
seen_is = refl

pub example : Example
unfolding silent state_of core_of post_of concealment_of state_outcome first_met first_outside call_trace call_outcome run_calls any_accepted latest_place
example =
    record {
      well_formed = silent_well_formed;
      state = refl;
      call = seen_is;
      any = ap (λ (e : Seen). e.accepted || false) seen_is;
      latest = ap (λ (e : Seen). cond e.accepted (get_or e.places 3 40) 40) seen_is;
    }

pub refused_trace_lem : RefusedTrace
unfolding call_trace call_outcome first_met
refused_trace_lem s = refl
