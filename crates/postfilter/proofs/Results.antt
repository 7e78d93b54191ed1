-- What a subframe and a frame of the postfilter give: tilts and divisors, whatever comes; lengths and ranges, where the memory and the samples have theirs.
use Rattle.std.proofs.Common.{ℕ, zero, suc, ◌+◌, ◌*◌, ◌<◌, ◌≤◌, ◌≡◌, refl, ◌∙◌, List, [], ◌∷◌, ◌++◌, add-one, not-suc-le-zero, mul-suc, arith, lit≤, ℤ, pos, length, drop, length-append, ◌≤ℤ◌, w16, SFits}
use Rattle.lists.specs.Lists.{at, iter, Every}
use Rattle.lists.proofs.Entries.{every_append, every_map}
use Rattle.basicop.specs.Ops.{Quotient}
use Rattle.basicop.specs.Words.{Words}
use Rattle.basicop.specs.Divided.{Divides}
use Rattle.basicop.proofs.Ints.{≤ℤ_trans, le_in}
use Rattle.basicop.proofs.Fits.{round_fits}
use Rattle.basicop.proofs.Words.{zero_fits, words_append, words_drop, words_take, words_tab}
use Rattle.lpc.specs.declared.Rows.{Rows}
use Rattle.lpc.specs.Rows.{rows_of}
use Rattle.lpc.proofs.Coefficients.{rows_are}
use Rattle.synthesis.proofs.Samples.{length_samples, samples_fit, newest_words}
use Rattle.energy.specs.Gain.{agc}
use Rattle.energy.proofs.Gains.{Gain}
use Rattle.energy.proofs.Divisors.{agc_divisors}
use Rattle.energy.proofs.Results.{agc_length, agc_fits, gain_after_in, gain_after_forty}
use Rattle.postfilter.specs.declared.Postfilter.{Postfilter}
use Rattle.postfilter.specs.Weight.{numerator, denominator, weighted}
use Rattle.postfilter.specs.Residual.{residual_at, residual}
use Rattle.postfilter.specs.Tilt.{tilt}
use Rattle.postfilter.specs.Preemphasis.{preemphasised}
use Rattle.postfilter.specs.Postfilter.{PostfilterResult, residual_of, resynthesised, filter_result, row_at, part, process_next, process_from, postfilter_result}
use Rattle.postfilter.specs.Tilted.{Framed}
use Rattle.postfilter.proofs.Preemphases.{preemphasised_length}
use Rattle.postfilter.proofs.Tilts.{tilted}

-- ---- the divisors of a subframe: those of its tilt, and those of agc, which lie in 16384..=32767
pub divisors : (n : ℕ) → n ≤ 16384 → (m : Postfilter) (a ys : List ℤ) → Every (Divides n) (tilt a).quotients → Every (Divides n) (filter_result m a ys).quotients
unfolding filter_result
divisors n h m a ys t =
    let c = agc m.gain.previous_gain ys (resynthesised m a ys) in
    every_append (Divides n) (tilt a).quotients c.quotients t (every_map wide c.quotients (agc_divisors m.gain.previous_gain ys (resynthesised m a ys)))
  where
    wide : (q : Quotient) → Divides 16384 q → Divides n q
    wide q d = record { from = ≤ℤ_trans (le_in (omega arith)) d.from; to = d.to }

-- the tilt is that of the row
pub tilt_is : (m : Postfilter) (a ys : List ℤ) → (filter_result m a ys).tilt ≡ (tilt a).value
unfolding filter_result
tilt_is m a ys = refl

-- ---- lengths and ranges
-- the memory: twice ten numbers, the last residual, and a gain in 0..=32767
pub record Held (m : Postfilter) : Type 0 where
  pub inputs : Words 10 m.input_history
  pub outputs : Words 10 m.synthesis_history
  pub residual : SFits w16 m.previous_residual
  pub gain : Gain m.gain.previous_gain

-- of a subframe: forty samples, and a memory whose gain is at most 32748
pub record Kept (m : Postfilter) (a ys : List ℤ) : Type 0 where
  pub forty : Words 40 (filter_result m a ys).output.samples
  pub memory : Held (filter_result m a ys).output.memory
  pub gain : (filter_result m a ys).output.memory.gain.previous_gain ≤ℤ pos 32748

residual_words : (a x : List ℤ) → Words 40 (residual a x)
unfolding residual
residual_words a x = words_tab (λ (n : ℕ). residual_at a x (n + 10)) 40 (λ k. round_fits _)

pub kept : (m : Postfilter) (a ys : List ℤ) → Held m → Words 40 ys → Kept m a ys
unfolding filter_result
kept m a ys h w =
    let out = resynthesised m a ys in
    let fed = preemphasised (tilt a).value m.previous_residual (residual_of m a ys) in
    let res = residual_words (weighted a numerator) (m.input_history ++ ys) in
    let g = m.gain.previous_gain in
    let n : length out ≡ 40 = length_samples 10 (weighted a denominator) fed m.synthesis_history h.outputs.count ∙ preemphasised_length (tilt a).value m.previous_residual (residual_of m a ys) ∙ res.count in
    let f : (i : ℕ) → SFits w16 (at out i) = samples_fit 10 (weighted a denominator) fed m.synthesis_history h.outputs.count in
    record {
      forty = record { count = agc_length g ys out ∙ n; fit = agc_fits g ys out f };
      memory = record {
        inputs = newest_words ys w;
        outputs = newest_words out (record { count = n; fit = f });
        residual = res.fit 39;
        gain = gain_after_in g h.gain ys out;
      };
      gain = gain_after_forty g h.gain ys out n;
    }

-- ---- a frame
-- what holds of each row, for the row of a subframe
pub each_row : (P : List ℤ → Type 0) (rows : Rows) → P rows.a → P rows.b → P rows.c → P rows.d → (k : ℕ) → P (row_at rows k)
each_row P rows a b c d zero = a
each_row P rows a b c d (suc zero) = b
each_row P rows a b c d (suc (suc zero)) = c
each_row P rows a b c d (suc (suc (suc k))) = d

-- the rows of lpc begin with 4096, whatever the LSPs
pub rows_first : (old new : List ℤ) (k : ℕ) → at (row_at (rows_of old new) k) 0 ≡ pos 4096
rows_first old new =
    let r = rows_are old new in
    each_row (λ (a : List ℤ). at a 0 ≡ pos 4096) (rows_of old new) r.0.first r.1.0.first r.1.1.0.first r.1.1.1.first

-- tilts and divisors after k subframes
framed : (n : ℕ) → n ≤ 16384 → (m : Postfilter) (rows : Rows) (ys : List ℤ) → ((k : ℕ) → Every (Divides n) (tilt (row_at rows k)).quotients) → (k : ℕ) → Framed n k (iter (process_next rows ys) k (process_from m))
unfolding iter
framed n h m rows ys d zero = record { tilts = refl; range = tt; divisors = tt }
framed n h m rows ys d (suc k) =
    let s = iter (process_next rows ys) k (process_from m) in
    let r = framed n h m rows ys d k in
    let a = row_at rows k in
    let f = filter_result s.output.memory a (part ys k) in
    record {
      tilts = length-append s.tilts (f.tilt ∷ []) ∙ rw r.tilts (add-one k);
      range = every_append _ s.tilts (f.tilt ∷ []) r.range (rw (tilt_is s.output.memory a (part ys k)) (((tilted a).from, (tilted a).to), tt));
      divisors = every_append (Divides n) s.quotients f.quotients r.divisors (divisors n h s.output.memory a (part ys k) (d k));
    }

-- for every memory, rows and samples: four tilts, and each divisor in 1..=32767
pub framed_any : (m : Postfilter) (rows : Rows) (ys : List ℤ) → Framed 1 4 (postfilter_result m rows ys)
unfolding postfilter_result
framed_any m rows ys = framed 1 (lit≤ tt) m rows ys (λ k. (tilted (row_at rows k)).divisors) 4

-- with rows that begin with 4096 (`rows_first`): each divisor in 512..=32767
pub framed_rows : (m : Postfilter) (rows : Rows) (ys : List ℤ) → ((k : ℕ) → at (row_at rows k) 0 ≡ pos 4096) → Framed 512 4 (postfilter_result m rows ys)
unfolding postfilter_result
framed_rows m rows ys e = framed 512 (lit≤ tt) m rows ys (λ k. (tilted (row_at rows k)).divisors_row (e k)) 4

-- the tilts are those of the four rows
pub tilts_are : (m : Postfilter) (rows : Rows) (ys : List ℤ) → (postfilter_result m rows ys).tilts ≡ (tilt rows.a).value ∷ (tilt rows.b).value ∷ (tilt rows.c).value ∷ (tilt rows.d).value ∷ []
unfolding postfilter_result iter filter_result
tilts_are m rows ys = refl

-- lengths and ranges: 40 samples a subframe, and the memory held; its gain at most 32748 after one subframe or more
pub record Carried (k : ℕ) (s : PostfilterResult) : Type 0 where
  pub samples : Words (40 * k) s.output.samples
  pub memory : Held s.output.memory
  pub gain : 1 ≤ k → s.output.memory.gain.previous_gain ≤ℤ pos 32748

part_words : (ys : List ℤ) (k : ℕ) → k < 4 → Words 160 ys → Words 40 (part ys k)
part_words ys k h w = words_take 40 (drop (40 * k) ys) (omega arith) (words_drop (40 * k) ys w)

carried : (m : Postfilter) (rows : Rows) (ys : List ℤ) → Held m → Words 160 ys → (k : ℕ) → k ≤ 4 → Carried k (iter (process_next rows ys) k (process_from m))
unfolding iter
carried m rows ys h w zero l = record { samples = record { count = refl; fit = λ i. zero_fits }; memory = h; gain = λ p. absurd (not-suc-le-zero p) }
carried m rows ys h w (suc k) l =
    let s = iter (process_next rows ys) k (process_from m) in
    let r = carried m rows ys h w k (omega arith) in
    let a = row_at rows k in
    let f = filter_result s.output.memory a (part ys k) in
    let q = kept s.output.memory a (part ys k) r.memory (part_words ys k l w) in
    record {
      samples = rw (mul-suc 40 k) (words_append s.output.samples f.output.samples r.samples q.forty);
      memory = q.memory;
      gain = λ p. q.gain;
    }

pub processed_kept : (m : Postfilter) (rows : Rows) (ys : List ℤ) → Held m → Words 160 ys → Carried 4 (postfilter_result m rows ys)
unfolding postfilter_result
processed_kept m rows ys h w = carried m rows ys h w 4 (lit≤ tt)
