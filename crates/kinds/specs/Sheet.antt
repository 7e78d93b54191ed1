-- The numbers of a sheet (docs/BENCH.md, "Sheets"). Of every kind 0..9 are LSFs (Q15), and the last 160 the innovation (Q13), forty for each subframe. Between them:
--   a frame sheet, 182 numbers: 10..13 pitch indices; 14..21 gains, pitch (Q14) then code (Q1) for each subframe
--   an index sheet, 178: 10..13 pitch indices; 14..17 gain indices
--   an erased sheet, 171: 10 attenuation stage
use Rattle.std.specs.Prelude.{List, [], ◌∷◌, ◌++◌, ℕ, zero, suc, ◌+◌, ◌*◌, ℤ, take, drop}
use Rattle.lists.specs.Lists.{at}
use Rattle.basicop.specs.declared.Gains.{Gains}
use Rattle.pitch.specs.Lag.{Lag, absolute, relative, concealed_lag}

abbrev pub lsfs_of : List ℤ → List ℤ
lsfs_of sheet = take 10 sheet

abbrev pub pitch_indices_of : List ℤ → List ℤ
pitch_indices_of sheet = take 4 (drop 10 sheet)

abbrev pub gains_of : List ℤ → List ℤ
gains_of sheet = take 8 (drop 14 sheet)

-- of subframe k
abbrev pub gains_at : List ℤ → ℕ → Gains
gains_at sheet k = record { pitch = record { 0 = at sheet (14 + 2 * k) }; code = record { 0 = at sheet (15 + 2 * k) } }

abbrev pub gain_indices_of : List ℤ → List ℤ
gain_indices_of sheet = take 4 (drop 14 sheet)

abbrev pub stage_of : List ℤ → ℤ
stage_of sheet = at sheet 10

-- of subframe k, where the innovation begins at `first`
abbrev pub innovation_at : ℕ → List ℤ → ℕ → List ℤ
innovation_at first sheet k = take 40 (drop (first + 40 * k) sheet)

-- ---- lags (Dec_lag3)
-- of two subframes, by their indices: the second goes by the lag of the first
abbrev pub lag_pair : ℤ → ℤ → List Lag
lag_pair n m =
    let a = absolute n in
    a ∷ relative m a.samples ∷ []

-- of the four
abbrev pub lags_of : List ℤ → List Lag
lags_of sheet = lag_pair (at sheet 10) (at sheet 11) ++ lag_pair (at sheet 12) (at sheet 13)

-- of n subframes of an erased frame after the lag t, each by the one before
abbrev pub concealed_lags : ℕ → ℤ → List Lag
concealed_lags zero t = []
concealed_lags (suc n) t = let lag = concealed_lag t in lag ∷ concealed_lags n lag.samples
