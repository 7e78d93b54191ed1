-- The calls and energies of specs/Gains.antt, computed from the definition; `never_negative`, `row_ranges`, `accepted_tables`, `kept_accepted`,
-- `sorted_kept`, `concealed_kept` and `good_kept`, applied.
use Rattle.std.proofs.Common.{refl, [], ◌∷◌, arith, lit<, ℤ, pos, ◌≤ℤ◌}
use Rattle.lists.specs.Lists.{iter}
use Rattle.basicop.specs.Ops.{clamp, asr, wrap, add, sub, mult, l_add, l_sub, l_mult, l_shl, l_shr_r, l_deposit_h, doublings, norm_l, l_extract, mpy_32_16}
use Rattle.energy.specs.Energy.{squares}
use Rattle.outcome.specs.Checks.{first_met, first_outside, first_close}
use Rattle.logarithm.specs.Log2.{log2}
use Rattle.logarithm.specs.Pow2.{pow2}
use Rattle.gain_table.specs.Rows.{gain_table, gain_row}
use Rattle.gain_table.proofs.Ranges.{row_ranges}
use Rattle.gain.specs.Gain.{predicted_gain, code_gain, decoded_gains, average_energy}
use Rattle.gain.specs.Checks.{is_table}
use Rattle.gain.specs.Call.{opening_energies, gain_call}
use Rattle.gain.proofs.Kept.{accepted_tables, kept_accepted}
use Rattle.gain.proofs.Signs.{never_negative}
use Rattle.gain_concealment.specs.Laws.{Kept}
use Rattle.gain_concealment.proofs.Sorting.{length_sorted, sorted_kept}
use Rattle.gain_concealment.proofs.Ranges.{concealed_kept, good_kept}
use Rattle.applied.specs.Gains.{log_table, pow_table, quiet, gain_calls, GainValues, refused_gains, RefusedGains, QuietEnergies, GainsApplied, pair, alike, KeptApplied}

pub gain_values : GainValues
unfolding gain_calls iter clamp asr wrap sub mult l_add l_sub l_mult l_shl l_shr_r l_deposit_h doublings norm_l l_extract mpy_32_16 squares first_met first_outside first_close log2 pow2 gain_table gain_row predicted_gain code_gain decoded_gains is_table gain_call log_table pow_table
gain_values = refl

pub refused_gains_lem : RefusedGains
unfolding refused_gains first_met first_outside first_close is_table gain_call log_table pow_table
refused_gains_lem = refl

pub quiet_energies : QuietEnergies
unfolding average_energy iter mult add asr clamp
quiet_energies = refl

pub gains_applied : GainsApplied
unfolding first_met first_outside first_close is_table gain_call log_table pow_table
gains_applied =
    let first = row_ranges 0 (lit< tt) in
    let last = row_ranges 127 (lit< tt) in
    record {
      code = λ index innovation energies. never_negative log_table pow_table index innovation energies;
      any_tables = λ logs pows. never_negative logs pows (pos 40) quiet opening_energies;
      pitch = (first.pitch.0, last.pitch.1);
      correction = (first.correction.0, last.correction.1);
      energy = (first.energy.0, last.energy.1);
      three = last.three;
      tables = λ x y z logs pows h. let t = accepted_tables (x ∷ logs) (y ∷ z ∷ pows) h in (omega (arith, t.0.count), (t.0.range 0 (lit< tt)).0, (t.0.range 0 (lit< tt)).1, t.1.rises 0 (lit< tt));
      kept = kept_accepted log_table (accepted_tables log_table pow_table refl).0;
      refused_code = refl;
      refused_pitch = refl;
      refused_energies = refl;
    }

-- ---- gains of erased frames, and of good ones after them
alike_kept : (pitch code : ℤ) → pos 0 ≤ℤ pitch → pos 0 ≤ℤ code → Kept (alike pitch code)
alike_kept pitch code p c =
    record {
      pitch_history = (p, tt);
      code_history = (c, (c, tt));
      past = record { pitch = p; code = c };
      last_good = record { pitch = p; code = c };
    }

pub kept_applied : KeptApplied
kept_applied =
    record {
      same = λ x y z. (sorted_kept (x ∷ y ∷ z ∷ [])).same;
      rises = λ x y z. (sorted_kept (x ∷ y ∷ z ∷ [])).rises 1 (rw (length_sorted (x ∷ y ∷ z ∷ [])) (lit< tt));
      concealed = λ stage pitch code p c. let u = concealed_kept stage (alike pitch code) (alike_kept pitch code p c) in (u.gains.pitch, u.next.past.code);
      good = λ erased pitch code sent p c q.
          let u = good_kept erased (pair sent sent) (alike pitch code) (record { pitch = q; code = q }) (alike_kept pitch code p c) in
          (u.gains.code, u.next.last_good.pitch);
    }
