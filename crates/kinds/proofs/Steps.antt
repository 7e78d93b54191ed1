-- Subframe after subframe: what each step keeps, all keep; and steps put together.
use Rattle.std.proofs.Common.{ℕ, suc, ◌+◌, ◌≤◌, ◌<◌, ◌≡◌, refl, ap, ◌∙◌, ℤ, List, [], ◌∷◌, arith, length}
use Rattle.lists.specs.Lists.{Every}
use Rattle.pitch.specs.Lag.{Lag}
use Rattle.decoder.specs.Inputs.{SubframeInputs}
use Rattle.state.specs.declared.Concealment.{Concealment}
use Rattle.kinds.specs.declared.GainMemory.{GainMemory}
use Rattle.kinds.specs.Sheet.{lsfs_of}
use Rattle.kinds.specs.Kind.{Kind}
use Rattle.kinds.specs.Prepass.{Step, Steps, steps, last_lag, prepared_from}

module _ (step : ℕ → Lag → GainMemory → Step) where
  -- lags, of which L holds; of each subframe's inputs P, of what goes on Q
  module _ (L : Lag → Type 0) (P : SubframeInputs → Type 0) (Q : GainMemory → Type 0) (one : (k : ℕ) (lag : Lag) (m : GainMemory) → k < 4 → L lag → Q m → P (step k lag m).inputs × Q (step k lag m).memory) where
    pub steps_keep : (k : ℕ) (lags : List Lag) (m : GainMemory) → k + length lags ≤ 4 → Every L lags → Q m → Every P (steps step k lags m).subframes × Q (steps step k lags m).memory
    steps_keep k [] m h e q = (tt, q)
    steps_keep k (lag ∷ lags) m h e q =
        let first = one k lag m (omega arith) e.0 q in
        let rest = steps_keep (suc k) lags (step k lag m).memory (omega arith) e.1 first.1 in
        ((first.0, rest.0), rest.1)

  -- one for each lag
  pub steps_length : (k : ℕ) (lags : List Lag) (m : GainMemory) → length (steps step k lags m).subframes ≡ length lags
  steps_length k [] m = refl
  steps_length k (lag ∷ lags) m = ap suc (steps_length (suc k) lags (step k lag m).memory)

  -- a subframe, and those after it
  pub step_first : (k : ℕ) (lag : Lag) (lags : List Lag) (m : GainMemory) {first : Step} {rest : Steps} → first ≡ step k lag m → rest ≡ steps step (suc k) lags first.memory
      → record { subframes = first.inputs ∷ rest.subframes; memory = rest.memory } ≡ steps step k (lag ∷ lags) m
  step_first k lag lags m es er = rw (er, es) refl

-- ---- a frame, from its LSFs, its lags as they were found, and the subframes of these
pub prepared_is : (kind : Kind) (sheet : List ℤ) (c : Concealment) (run : List Lag → Steps)
    {lsfs : List ℤ} {found lags : List Lag} {subframes : List SubframeInputs} {memory : GainMemory} {last mark : ℤ}
    → lsfs ≡ lsfs_of sheet → found ≡ lags → record { subframes = subframes; memory = memory } ≡ run found → last ≡ last_lag c.last_lag found → mark ≡ kind.mark
    → record {
      inputs = record { lsfs = lsfs; subframes = subframes };
      concealment = record { last_lag = last; gains = memory.concealment; erased = mark };
      energies = memory.gain_decoder.energies;
    } ≡ prepared_from kind sheet c lags (run lags)
prepared_is kind sheet c run ef el es et em =
    let all = es ∙ ap run el in
    λ i. record {
      inputs = record { lsfs = ef i; subframes = (all i).subframes };
      concealment = record { last_lag = (et ∙ ap (last_lag c.last_lag) el) i; gains = (all i).memory.concealment; erased = em i };
      energies = (all i).memory.gain_decoder.energies;
    }
