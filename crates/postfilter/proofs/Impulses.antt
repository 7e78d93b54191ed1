-- The impulse response: how the code comes by it, and its first sample.
use Rattle.std.proofs.Common.{ℕ, zero, suc, ◌-◌, ◌<◌, ◌≡◌, refl, sym, ◌∙◌, List, [], ◌∷◌, ◌++◌, append_assoc, add-zero, arith, lit<, ℤ, pos, ◌-ℤ◌, ◌*ℤ◌, length, take, replicate, length-append, take_at, get_or-take, get_or-drop, w32, SFits}
use Rattle.std.proofs.Math.Seq.{get_or_at}
use Rattle.lists.specs.Lists.{at}
use Rattle.basicop.specs.Ops.{clamp, asr, l_add, l_sub, l_mult, l_shl, round}
use borrow.Author.Differences.{product_is}
use Rattle.basicop.proofs.Ints.{arith_ℤ, sub_ℤ_is}
use Rattle.basicop.proofs.Clamp.{clamp_id}
use Rattle.basicop.proofs.Fits.{l_mult_fits}
use Rattle.synthesis.specs.Recursion.{recursion}
use Rattle.synthesis.specs.Synthesis.{acc, sample, samples, first_samples}
use Rattle.synthesis.proofs.Fed.{fed_starts}
use Rattle.synthesis.proofs.Samples.{length_samples}
use Rattle.postfilter.specs.Weight.{numerator, denominator, weighted}
use Rattle.postfilter.specs.Tilt.{impulse, response}

abbrev zeros : ℕ → List ℤ
zeros n = replicate n (pos 0)

module _ (num den : List ℤ) where
  -- the first 22 of forty samples
  pub impulse_first : length num ≡ 11 → take 22 (first_samples 22 10 den (num ++ zeros 29) (zeros 10)) ≡ impulse num den
  unfolding impulse
  impulse_first l =
      let two : num ++ zeros 29 ≡ (num ++ zeros 11) ++ zeros 18 = sym (append_assoc num (zeros 11) (zeros 18)) in
      let long : length (num ++ zeros 11) ≡ 22 = length-append num (zeros 11) ∙ rw l in
      rw (two, take_at (num ++ zeros 11) (zeros 18) 22 long)
      (take_at (samples 10 den (num ++ zeros 11) (zeros 10)) _ 22 (length_samples 10 den (num ++ zeros 11) (zeros 10) refl ∙ long))

-- ---- the first sample
-- of any synthesis
samples_first : (m : ℕ) (a : List ℤ) (x : ℤ) (xs h : List ℤ) → length h ≡ m → at (samples m a (x ∷ xs) h) 0 ≡ sample m a x h
unfolding recursion
samples_first m a x xs h l =
    let v = sample m a x h in
    let y = h ++ (v ∷ []) in
    let f = recursion (sample m a) xs y in
    let n : length y ≡ suc m = length-append h (v ∷ []) ∙ rw l (omega arith) in
    get_or-drop m f 0 (pos 0)
    ∙ rw (add-zero m) (sym (get_or-take (suc m) f m (pos 0) (omega arith)) ∙ rw (rw n at (fed_starts (sample m a) xs y)) (get_or_at h v [] (pos 0) m l))

at_zeros : (n i : ℕ) → at (zeros n) i ≡ pos 0
at_zeros zero i = refl
at_zeros (suc n) zero = refl
at_zeros (suc n) (suc i) = at_zeros n i

times_zero : (c : ℤ) → l_mult c (pos 0) ≡ pos 0
unfolding l_mult
times_zero c =
    let e : pos 2 *ℤ (c *ℤ pos 0) ≡ pos 0 = omega (arith_ℤ, product_is (pos 2) (c *ℤ pos 0), product_is c (pos 0)) in
    rw e (clamp_id w32 (pos 0) (record { sfits = lit< tt }))

less_zero : (s : ℤ) → SFits w32 s → l_sub s (pos 0) ≡ s
unfolding l_sub
less_zero s f =
    let e : s -ℤ pos 0 ≡ s = omega (arith_ℤ, sub_ℤ_is s (pos 0)) in
    rw e (clamp_id w32 s f)

-- zeros before it leave the first product
alone : (a : List ℤ) (x : ℤ) (n k : ℕ) → acc a x (zeros n) k ≡ l_mult x (at a 0)
unfolding acc
alone a x n zero = refl
alone a x n (suc k) =
    rw (at_zeros n (length (zeros n) - suc k), times_zero (at a (suc k)), alone a x n k) (less_zero (l_mult x (at a 0)) (l_mult_fits x (at a 0)))

unit : round (l_shl (l_mult (pos 4096) (pos 4096)) (pos 3)) ≡ pos 4096
unfolding l_mult l_shl l_add clamp asr
unit = refl

-- with a first coefficient of 4096 it is 4096
pub response_first : (a : List ℤ) → at a 0 ≡ pos 4096 → at (response a) 0 ≡ pos 4096
unfolding impulse weighted
response_first a e =
    samples_first 10 (weighted a denominator) (at a 0) _ (zeros 10) refl ∙ rw (alone (weighted a denominator) (at a 0) 10 10, e) unit

pub response_some : (a : List ℤ) → 0 < length (response a)
unfolding impulse weighted
response_some a = rw (length_samples 10 (weighted a denominator) (weighted a numerator ++ zeros 11) (zeros 10) refl) (omega arith)
