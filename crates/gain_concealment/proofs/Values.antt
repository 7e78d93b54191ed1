-- Gains of erased frames, computed from the definition: four subframes in a row, other arrangements, the last stage, and zeros.
use Rattle.std.proofs.Common.{◌≡◌, refl, List, [], ◌∷◌, ℕ, zero, suc, ℤ, pos}
use Rattle.basicop.specs.Ops.{asr, clamp, mult}
use Rattle.basicop.specs.declared.Gains.{Gains}
use Rattle.gain_concealment.specs.declared.GainConcealment.{GainConcealment}
use Rattle.gain_concealment.specs.Median.{inserted, sorted}
use Rattle.gain_concealment.specs.Concealment.{updated, concealed_gains}

abbrev pair : ℕ → ℕ → Gains
pair pitch code = record { pitch = record { 0 = pos pitch }; code = record { 0 = pos code } }

-- five numbers, the oldest first
abbrev five : ℕ → ℕ → ℕ → ℕ → ℕ → List ℤ
five a b c d e = pos a ∷ pos b ∷ pos c ∷ pos d ∷ pos e ∷ []

-- the pitch gain's five, the code gain's five, the past gains
abbrev kept : List ℤ → List ℤ → Gains → GainConcealment
kept pitches codes past = record { pitch_history = pitches; code_history = codes; past = past; last_good = pair 0 0 }

-- the gains of n erased subframes, one after another
abbrev gains_of : ℕ → ℕ → GainConcealment → List Gains
gains_of zero stage c = []
gains_of (suc n) stage c = let u = concealed_gains (pos stage) c in u.gains ∷ gains_of n stage u.next

pub concealment_values :
    (gains_of 4 0 (kept (five 100 200 300 400 500) (five 50 40 30 20 10) (pair 250 35)) ≡ pair 249 29 ∷ pair 248 28 ∷ pair 247 27 ∷ pair 246 26 ∷ [])
    × (gains_of 1 0 (kept (five 500 100 400 200 300) (five 30 10 50 20 40) (pair 250 35)) ≡ pair 249 29 ∷ [])
    × (gains_of 1 0 (kept (five 300 500 100 200 400) (five 20 30 10 40 50) (pair 250 35)) ≡ pair 249 29 ∷ [])
    × (gains_of 1 6 (kept (five 100 200 300 400 500) (five 50 40 30 20 10) (pair 1000 1000)) ≡ pair 59 20 ∷ [])
    × (gains_of 1 0 (kept (five 0 0 0 0 0) (five 0 0 0 0 0) (pair 0 0)) ≡ pair 0 0 ∷ [])
unfolding concealed_gains updated inserted sorted mult asr clamp
concealment_values = (refl, refl, refl, refl, refl)
