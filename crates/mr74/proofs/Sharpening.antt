-- The sharpening before the core is the core's own: `SharpeningIsCore`.
use Rattle.std.proofs.Common.{ℕ, suc, ◌≡◌, refl, sym, ap, Bool, List, [], ◌∷◌, map, arith, ℤ, length}
use Rattle.basicop.specs.declared.Q14.{Q14}
use Rattle.pitch.specs.Lag.{Lag}
use Rattle.decoder.specs.declared.Core.{Core}
use Rattle.decoder.specs.Core.{SubframeResult, subframe_result, subframe_results, core_result, opened_core, row_list}
use Rattle.kinds.specs.declared.GainMemory.{GainMemory}
use Rattle.kinds.specs.Kind.{Kind, kind_of}
use Rattle.kinds.specs.Prepass.{kind_step, steps, after_erased, opened_memory, prepared_after, prepared}
use Rattle.kinds.proofs.Sound.{four_lags}
use Rattle.mr74.specs.Frame.{core_result_of}
use Rattle.mr74.specs.Sharpening.{sharpenings, SharpeningIsCore}

module _ (kind : Kind) (sheet : List ℤ) (erased : Bool) where
  each_from : (c : Core) (rows : List (List ℤ)) (k : ℕ) (lags : List Lag) (m : GainMemory) → length rows ≡ length lags
      → map (λ (t : SubframeResult). t.next.sharpening) (subframe_results c rows (steps (kind_step kind sheet erased) k lags m).subframes) ≡ sharpenings (kind_step kind sheet erased) k lags m
  unfolding subframe_results subframe_result
  each_from c [] k [] m e = refl
  each_from c [] k (lag ∷ lags) m e = absurd (omega (arith, e))
  each_from c (row ∷ rows) k [] m e = absurd (omega (arith, e))
  each_from c (row ∷ rows) k (lag ∷ lags) m e =
      let one = kind_step kind sheet erased k lag m in
      ap (λ (gs : List Q14). one.memory.sharpening ∷ gs) (each_from (subframe_result c row one.inputs).next rows (suc k) lags one.memory (omega (arith, e)))

pub sharpening_is_core : SharpeningIsCore
unfolding core_result prepared_after
sharpening_is_core kind energies sheet s =
    let inputs = (prepared (kind_of kind) energies sheet s).inputs in
    let lags = (kind_of kind).lags sheet s.concealment.last_lag in
    record {
      opened = refl;
      each = each_from (kind_of kind) sheet (after_erased s.concealment) (opened_core s.core inputs) (row_list (core_result_of inputs s).rows) 0 lags (opened_memory energies s) (sym (four_lags kind sheet s.concealment.last_lag));
    }
