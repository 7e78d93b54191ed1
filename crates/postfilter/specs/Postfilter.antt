-- Post_Filter of TS 26.073 at MR74 (TS 26.090, 6.2.1): a subframe, and the four of a frame.
use Rattle.std.specs.Prelude.{ℕ, zero, suc, ◌*◌, List, [], ◌∷◌, ◌++◌, ℤ, take, drop}
use Rattle.lists.specs.Lists.{at, iter}
use Rattle.basicop.specs.Ops.{Quotient}
use Rattle.lpc.specs.declared.Rows.{Rows}
use Rattle.synthesis.specs.Synthesis.{samples, newest}
use Rattle.energy.specs.Gain.{agc}
use Rattle.postfilter.specs.Weight.{numerator, denominator, weighted}
use Rattle.postfilter.specs.Residual.{residual}
use Rattle.postfilter.specs.Tilt.{tilt}
use Rattle.postfilter.specs.Preemphasis.{preemphasised}
use Rattle.postfilter.specs.declared.Postfilter.{Postfilter}
use Rattle.postfilter.specs.declared.Postfiltered.{Postfiltered}

-- ---- a subframe
-- output: the samples and the next memory
pub record FilterResult : Type 0 where
  pub output : Postfiltered 40
  pub tilt : ℤ
  pub quotients : List Quotient

-- of the memory m, the row a and the subframe's synthesis samples ys: Residu with the numerator's row
abbrev pub residual_of : Postfilter → List ℤ → List ℤ → List ℤ
residual_of m a ys = residual (weighted a numerator) (m.input_history ++ ys)

-- preemphasis with the tilt, and Syn_filt with the denominator's row
abbrev pub resynthesised : Postfilter → List ℤ → List ℤ → List ℤ
resynthesised m a ys =
    samples 10 (weighted a denominator) (preemphasised (tilt a).value m.previous_residual (residual_of m a ys)) m.synthesis_history

-- agc against the subframe's synthesis samples
unfoldable pub filter_result : Postfilter → List ℤ → List ℤ → FilterResult
filter_result m a ys =
    let out = resynthesised m a ys in
    let c = agc m.gain.previous_gain ys out in
    record {
      output = record {
        samples = c.value.samples;
        memory = record {
          input_history = newest 10 ys;
          synthesis_history = newest 10 out;
          previous_residual = at (residual_of m a ys) 39;
          gain = c.value.control;
        };
      };
      tilt = (tilt a).value;
      quotients = (tilt a).quotients ++ c.quotients;
    }

-- ---- a frame
pub record PostfilterResult : Type 0 where
  pub output : Postfiltered 160
  pub tilts : List ℤ
  pub quotients : List Quotient

-- the row of subframe k, and its samples
abbrev pub row_at : Rows → ℕ → List ℤ
row_at rows zero = rows.a
row_at rows (suc zero) = rows.b
row_at rows (suc (suc zero)) = rows.c
row_at rows (suc (suc (suc k))) = rows.d

abbrev pub part : List ℤ → ℕ → List ℤ
part ys k = take 40 (drop (40 * k) ys)

-- one subframe more
abbrev pub process_next : Rows → List ℤ → ℕ → PostfilterResult → PostfilterResult
process_next rows ys k s =
    let f = filter_result s.output.memory (row_at rows k) (part ys k) in
    record {
      output = record { samples = s.output.samples ++ f.output.samples; memory = f.output.memory };
      tilts = s.tilts ++ (f.tilt ∷ []);
      quotients = s.quotients ++ f.quotients;
    }

abbrev pub process_from : Postfilter → PostfilterResult
process_from m = record { output = record { samples = []; memory = m }; tilts = []; quotients = [] }

-- of the memory m, the four rows and the frame's 160 synthesis samples ys
unfoldable pub postfilter_result : Postfilter → Rows → List ℤ → PostfilterResult
postfilter_result m rows ys = iter (process_next rows ys) 4 (process_from m)
