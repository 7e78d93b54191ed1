-- Neither gain is negative, of any integers as innovation and energies, and of any lists as tables: `never_negative`.
use Rattle.std.proofs.Common.{◌≡◌, refl, Bool, true, false, List, [], ◌∷◌, suc, arith, ℤ, pos, negsuc, ◌≤ℤ◌, w16, w32, SFits}
use lib.Signed.{le_z_yes}
use Rattle.basicop.specs.Ops.{asr, sub, l_mult, l_shr, extract_h}
use Rattle.basicop.proofs.Ints.{arith_ℤ, le_in, ≤ℤ_trans, sfits_by}
use Rattle.basicop.proofs.Naturals.{asr_pos, l_mult_pos, l_shl_pos}
use Rattle.basicop.proofs.Fits.{l_mult_fits}
use Rattle.basicop.proofs.Shift.{asr_same}
use Rattle.basicop.proofs.Wrap.{wrap_id}
use Rattle.basicop.proofs.Split.{extract_is, low_small}
use Rattle.outcome.specs.Outcome.{is_accepted}
use Rattle.outcome.specs.Checks.{first_met}
use Rattle.outcome.proofs.Checks.{both_accept}
use Rattle.logarithm.specs.declared.Logarithm.{Logarithm}
use Rattle.logarithm.specs.Pow2.{pow2}
use Rattle.logarithm.proofs.Powers.{Entries, power_in}
use Rattle.gain_table.proofs.Ranges.{row_ranges}
use Rattle.gain.specs.Gain.{predicted_energy, predicted_gain, code_gain, decoded_gains}
use Rattle.gain.specs.Checks.{TableKept, table_checks, index_checks}
use Rattle.gain.specs.Call.{decode_checks, gain_call}
use Rattle.gain.proofs.Groups.{index_accept}
use Rattle.gain.proofs.Kept.{accepted_tables}

-- ---- operators of numbers that are not negative
shifted_from : (x n : ℤ) → pos 0 ≤ℤ x → pos 0 ≤ℤ l_shr x n
shifted_from (pos x) (pos n) h = rw (asr_pos x n) (le_in (omega arith))
shifted_from (pos x) (negsuc n) h = rw (l_shl_pos x (suc n)) (le_in (omega arith))
shifted_from (negsuc x) n h = absurd h.le

product_from : (x y : ℤ) → pos 0 ≤ℤ x → pos 0 ≤ℤ y → pos 0 ≤ℤ l_mult x y
product_from (pos x) (pos y) h l = rw (l_mult_pos x y) (le_in (omega arith))
product_from (pos x) (negsuc y) h l = absurd l.le
product_from (negsuc x) y h l = absurd h.le

-- ---- the predicted gain's fraction is a half of L_Extract
pub fraction_in : (logs innovation energies : List ℤ) → (pos 0 ≤ℤ (predicted_gain logs innovation energies).fraction) × ((predicted_gain logs innovation energies).fraction ≤ℤ pos 32767)
unfolding predicted_gain
fraction_in logs innovation energies =
    let x = l_mult (extract_h (predicted_energy logs innovation energies)) (pos 5439) in
    let f : SFits w32 (asr x 8) = asr_same w32 x 8 (l_mult_fits _ _) in
    rw (extract_is (asr x 8) f) (le_in (omega arith), le_in (omega (arith, low_small (asr x 8) f)))

-- ---- the code gain of a correction that is not negative
code_gain_from : (pows : List ℤ) → Entries pows → (correction : ℤ) (predicted : Logarithm) → pos 0 ≤ℤ correction → pos 0 ≤ℤ predicted.fraction → predicted.fraction ≤ℤ pos 32767 → pos 0 ≤ℤ code_gain pows correction predicted
unfolding code_gain
code_gain_from pows r correction predicted c h l =
    let p = power_in pows r predicted.fraction h l in
    let f : SFits w16 (pow2 pows (pos 14) predicted.fraction) = sfits_by (omega (arith_ℤ, p.0, p.1)) in
    rw (wrap_id w16 (pow2 pows (pos 14) predicted.fraction) f)
    (shifted_from _ (pos 16) (shifted_from _ (sub (pos 10) predicted.exponent) (product_from correction _ c p.0)))

-- ---- both gains of an index of the table
pub pitch_from : (logs pows : List ℤ) (index : ℤ) (innovation energies : List ℤ) → pos 0 ≤ℤ index → index ≤ℤ pos 127 → pos 0 ≤ℤ (decoded_gains logs pows index innovation energies).gains.pitch.0
unfolding decoded_gains
pitch_from logs pows (pos index) innovation energies h l = ≤ℤ_trans (le_z_yes tt) (row_ranges index (omega arith_ℤ)).pitch.0
pitch_from logs pows (negsuc n) innovation energies h l = absurd h.le

pub code_from : (logs pows : List ℤ) (index : ℤ) (innovation energies : List ℤ) → TableKept pows → pos 0 ≤ℤ index → index ≤ℤ pos 127 → pos 0 ≤ℤ (decoded_gains logs pows index innovation energies).gains.code.0
unfolding decoded_gains
code_from logs pows (pos index) innovation energies t h l =
    let f = fraction_in logs innovation energies in
    let r = row_ranges index (omega arith_ℤ) in
    code_gain_from pows t.range _ (predicted_gain logs innovation energies) (≤ℤ_trans (le_z_yes tt) r.correction.0) f.0 f.1
code_from logs pows (negsuc n) innovation energies t h l = absurd h.le

-- and of a call: refused, its gains are 0
pub never_negative : (logs pows : List ℤ) (index : ℤ) (innovation energies : List ℤ) → pos 0 ≤ℤ (gain_call logs pows index innovation energies).gains.code.0
unfolding gain_call
never_negative logs pows index innovation energies = go (is_accepted (first_met (decode_checks logs pows index))) refl
  where
    go : (t : Bool) → is_accepted (first_met (decode_checks logs pows index)) ≡ t → pos 0 ≤ℤ (gain_call logs pows index innovation energies).gains.code.0
    go true h =
        let b = both_accept (table_checks logs pows) (index_checks 1 (index ∷ [])) h in
        let i = index_accept 1 (index ∷ []) b.1 0 (omega arith) in
        rw h (omega (arith_ℤ, code_from logs pows index innovation energies (accepted_tables logs pows b.0).1 i.0 i.1))
    go false h = rw h (le_z_yes tt)
