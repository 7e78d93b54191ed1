-- gc_pred, Dec_gain, gc_pred_update and gc_pred_average_limited of TS 26.073 at MR74 (TS 26.090, 6.1): the gains of a subframe, from their index, its
-- sharpened innovation and the energies of the four subframes before it; and the energies after a subframe of an erased frame.
-- logs, pows: the tables of Log2 and Pow2.
use Rattle.std.specs.Prelude.{if◌then◌else◌, List, [], ◌∷◌, ℕ, ℤ, pos, take}
use Rattle.std.specs.Int.Signed.{lt_z}
use Rattle.lists.specs.Lists.{minus, at, iter}
use Rattle.basicop.specs.Ops.{add, sub, mult, l_mult, l_mac, l_shl, l_shr, extract_h, extract_l, l_extract, mpy_32_16}
use Rattle.energy.specs.Energy.{squares}
use Rattle.logarithm.specs.declared.Logarithm.{Logarithm}
use Rattle.logarithm.specs.Log2.{log2}
use Rattle.logarithm.specs.Pow2.{pow2}
use Rattle.gain_table.specs.Rows.{gain_row}
use Rattle.gain.specs.declared.DecodedGains.{DecodedGains}

-- ---- gc_pred: the logarithm of the code gain that the past energies predict
-- pred: the predictor's coefficients (Q13), the newest energy's first
abbrev pub predictor : List ℤ
predictor = pos 5571 ∷ pos 4751 ∷ pos 2785 ∷ pos 1556 ∷ []

-- the innovation's energy, its logarithm scaled and taken from the mean energy. The energy is the plain sum of squares, neither >> 4 nor begun again
abbrev pub below_mean : List ℤ → List ℤ → ℤ
below_mean logs innovation =
    let log = log2 logs (squares innovation) in
    l_shl (l_mac (mpy_32_16 (record { hi = log.exponent; lo = log.fraction }) (minus 24660)) (pos 32588) (pos 32)) (pos 10)

-- L_mac over the coefficients and the past energies
abbrev pub predicted_energy : List ℤ → List ℤ → List ℤ → ℤ
predicted_energy logs innovation energies = iter (λ (i : ℕ) (s : ℤ). l_mac s (at predictor i) (at energies i)) 4 (below_mean logs innovation)

-- 5439 is this mode's own factor, for bit exactness with IS-641; other modes have 5443
unfoldable pub predicted_gain : List ℤ → List ℤ → List ℤ → Logarithm
predicted_gain logs innovation energies =
    let halves = l_extract (l_shr (l_mult (extract_h (predicted_energy logs innovation energies)) (pos 5439)) (pos 8)) in
    record { exponent = halves.hi; fraction = halves.lo }

-- ---- Dec_gain
-- the correction of a row (Q12), times the predicted gain (Q1)
unfoldable pub code_gain : List ℤ → ℤ → Logarithm → ℤ
code_gain pows correction predicted =
    extract_h (l_shr (l_mult correction (extract_l (pow2 pows (pos 14) predicted.fraction))) (sub (pos 10) predicted.exponent))

-- gc_pred_update: an energy enters first, the oldest leaves
abbrev pub entered : ℤ → List ℤ → List ℤ
entered energy energies = energy ∷ take 3 energies

-- of an index: pitch gain (Q14) and code gain (Q1), and the past energies after the subframe
unfoldable pub decoded_gains : List ℤ → List ℤ → ℤ → List ℤ → List ℤ → DecodedGains
decoded_gains logs pows index innovation energies =
    let row = gain_row index in
    record {
      gains = record { pitch = record { 0 = at row 0 }; code = record { 0 = code_gain pows (at row 1) (predicted_gain logs innovation energies) } };
      gain_decoder = record { energies = entered (at row 2) energies };
    }

-- ---- an erased frame
-- gc_pred_average_limited: a quarter of the sum of the energies, newest first, at least MIN_ENERGY
abbrev pub min_energy : ℤ
min_energy = minus 14336

unfoldable pub average_energy : List ℤ → ℤ
average_energy energies =
    let average = mult (iter (λ (i : ℕ) (a : ℤ). add a (at energies i)) 4 (pos 0)) (pos 8192) in
    if lt_z average min_energy then min_energy else average

-- it enters as an energy does
abbrev pub concealed_energies : List ℤ → List ℤ
concealed_energies energies = entered (average_energy energies) energies
