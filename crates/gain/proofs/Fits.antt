-- Both gains of an index of the table have 16 bits.
use Rattle.std.proofs.Common.{List, ℤ, pos, negsuc, ◌≤ℤ◌, w16, w32, SFits}
use Rattle.basicop.specs.Ops.{l_shr}
use Rattle.basicop.proofs.Fits.{l_mult_fits, l_shl_fits, extract_h_fits}
use Rattle.basicop.proofs.Ints.{arith_ℤ, sfits_by}
use Rattle.basicop.proofs.Shift.{asr_same}
use Rattle.gain_table.proofs.Ranges.{row_ranges}
use Rattle.gain.specs.Gain.{decoded_gains, code_gain}

l_shr_fits : (x n : ℤ) → SFits w32 x → SFits w32 (l_shr x n)
l_shr_fits x (pos n) f = asr_same w32 x n f
l_shr_fits x (negsuc n) f = l_shl_fits x (pos _) f

pub pitch_fits : (logs pows : List ℤ) (index : ℤ) (innovation energies : List ℤ) → pos 0 ≤ℤ index → index ≤ℤ pos 127 → SFits w16 (decoded_gains logs pows index innovation energies).gains.pitch.0
unfolding decoded_gains
pitch_fits logs pows (pos n) innovation energies h l = let r = (row_ranges n (omega arith_ℤ)).pitch in sfits_by (omega (arith_ℤ, r.0, r.1))
pitch_fits logs pows (negsuc n) innovation energies h l = absurd h.le

pub code_fits : (logs pows : List ℤ) (index : ℤ) (innovation energies : List ℤ) → SFits w16 (decoded_gains logs pows index innovation energies).gains.code.0
unfolding decoded_gains code_gain
code_fits logs pows index innovation energies = extract_h_fits _ (l_shr_fits _ _ (l_mult_fits _ _))
