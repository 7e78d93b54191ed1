-- The call of one gain index over bytes. It is lent the tables of logarithm and power, and the four past energies, newest first.
use Rattle.std.specs.Prelude.{◌≡◌, Bool, if◌then◌else◌, ◌&&◌, List, [], ◌∷◌, ℕ, ◌*◌, ◌==◌, ℤ, length}
use Rattle.basicop.specs.declared.Gains.{Gains}
use Rattle.gain.specs.declared.GainAnswer.{GainAnswer}
use Rattle.gain.specs.Call.{gain_call}
use Rattle.coding.specs.Bytes.{words, bytes_of, Bytes}
use Rattle.capi.specs.Capi.{unfit, code_of}
use Rattle.capi.specs.Frames.{energy_count, table_in}

-- 80 bytes
abbrev pub innovation_length : ℕ
innovation_length = 2 * 40

-- pitch gain and code gain
abbrev pub gains_length : ℕ
gains_length = 2 * 2

-- innovation, energies and gains have their lengths: no refusal speaks of these
abbrev pub gain_fits : ℕ → ℕ → ℕ → Bool
gain_fits innovation energies gains = innovation == innovation_length && (energies == 2 * energy_count && gains == gains_length)

abbrev pub gain_pair_bytes : Gains → List ℕ
gain_pair_bytes gains = bytes_of (gains.pitch.0 ∷ gains.code.0 ∷ [])

-- the returned number, and the lent energies and gains
pub record GainReturn : Type 0 where
  pub code : ℕ
  pub energies : List ℕ
  pub gains : List ℕ

abbrev pub gain_return : ℕ → List ℕ → List ℕ → GainReturn
gain_return code energies gains = record { code = code; energies = energies; gains = gains }

abbrev pub gain_after : GainAnswer → GainReturn
gain_after a = gain_return (code_of a.outcome) (bytes_of a.gain_decoder.energies) (gain_pair_bytes a.gains)

unfoldable pub gain_bytes : ℤ → List ℕ → List ℕ → List ℕ → List ℕ → List ℕ → GainReturn
gain_bytes index innovation logs pows energies gains =
    if gain_fits (length innovation) (length energies) (length gains)
    then gain_after (gain_call (table_in logs) (table_in pows) index (words innovation) (words energies))
    else gain_return unfit energies gains

-- ---- what a caller may rely on; the theorem is `gain_unchanged` in proofs/Unchanged.antt
-- a call of one index that returns another number than 0 leaves the lent energies as they were
abbrev pub GainUnchanged : Type 0
GainUnchanged =
    (index : ℤ) (innovation logs pows energies gains : List ℕ) → Bytes energies
    → let left = gain_bytes index innovation logs pows energies gains in
    (left.code ≡ 0 → ⊥) → left.energies ≡ energies
