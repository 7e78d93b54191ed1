-- The postfilter of a frame tells as many quotients as `tilts_divide` and `controls_divide` say.
use Rattle.std.proofs.Common.{◌≡◌, refl, ap, ap₂, ◌∙◌, Bool, true, false, List, ℕ, ◌+◌, arith, ℤ, pos, length, length-append}
use Rattle.std.specs.Int.Signed.{le_z}
use Rattle.lists.specs.Lists.{iter, one_if, count}
use Rattle.basicop.proofs.Tests.{yes_less, no_less, at_most_yes, at_most_no}
use Rattle.lpc.specs.declared.Rows.{Rows}
use Rattle.energy.specs.Gain.{agc}
use Rattle.energy.specs.Divisions.{gain_divides}
use Rattle.energy.proofs.Divisions.{quotient_count, agc_divisions}
use Rattle.postfilter.specs.declared.Postfilter.{Postfilter}
use Rattle.postfilter.specs.Tilt.{r1, tilt_of, response, tilt}
use Rattle.postfilter.specs.Postfilter.{PostfilterResult, resynthesised, filter_result, row_at, part, process_next, process_from, postfilter_result}
use Rattle.postfilter.specs.Divisions.{tilt_divides, tilts_divide, controls_divide}

tilt_divisions_lem : (a : List ℤ) → quotient_count (tilt a) ≡ one_if (tilt_divides a)
unfolding tilt tilt_of one_if
tilt_divisions_lem a = go (le_z (r1 (response a)) (pos 0)) refl
  where
    go : (t : Bool) → le_z (r1 (response a)) (pos 0) ≡ t → quotient_count (tilt a) ≡ one_if (tilt_divides a)
    go true e = rw (e, no_less (pos 0) (r1 (response a)) (at_most_yes e)) refl
    go false e = rw (e, yes_less (pos 0) (r1 (response a)) (at_most_no (r1 (response a)) (pos 0) e)) refl

-- a subframe: the tilt, and the gain control
module _ (m : Postfilter) (a ys : List ℤ) where
  filter_divisions : length (filter_result m a ys).quotients ≡ one_if (tilt_divides a) + one_if (gain_divides ys (resynthesised m a ys))
  unfolding filter_result
  filter_divisions =
      let out = resynthesised m a ys in
      length-append (tilt a).quotients (agc m.gain.previous_gain ys out).quotients
      ∙ ap₂ (λ (i j : ℕ). i + j) (tilt_divisions_lem a) (agc_divisions ys out m.gain.previous_gain)

-- one subframe more
module _ (rows : Rows) (ys : List ℤ) (k : ℕ) (s : PostfilterResult) where
  next_divisions : length (process_next rows ys k s).quotients ≡ length s.quotients + (one_if (tilt_divides (row_at rows k)) + one_if (gain_divides (part ys k) (resynthesised s.output.memory (row_at rows k) (part ys k))))
  next_divisions =
      let m = s.output.memory in
      length-append s.quotients (filter_result m (row_at rows k) (part ys k)).quotients
      ∙ ap (λ (n : ℕ). length s.quotients + n) (filter_divisions m (row_at rows k) (part ys k))

-- a frame
pub post_divisions : (m : Postfilter) (rows : Rows) (ys : List ℤ) → length (postfilter_result m rows ys).quotients ≡ count (tilts_divide rows) + count (controls_divide m rows ys)
unfolding postfilter_result iter
post_divisions m rows ys =
    let s : ℕ → PostfilterResult = λ (k : ℕ). iter (process_next rows ys) k (process_from m) in
    omega (arith, next_divisions rows ys 0 (s 0), next_divisions rows ys 1 (s 1), next_divisions rows ys 2 (s 2), next_divisions rows ys 3 (s 3))
