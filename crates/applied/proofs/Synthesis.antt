-- `agree` and `retry` at two excitations: the clamped steps are computed, the whole numbers and the subframe stay shut, and what is said of them comes from
-- the theorems.
use Rattle.std.proofs.Common.{◌≡◌, refl, sym, ap, ◌∙◌, subst, List, [], ◌∷◌, ◌++◌, ℕ, ℤ, pos, take, replicate}
use Rattle.lists.specs.Lists.{minus}
use Rattle.basicop.specs.Ops.{clamp, asr, l_mult, l_sub, l_shl, l_add, quartered}
use Rattle.synthesis.specs.Recursion.{recursion}
use Rattle.synthesis.specs.Synthesis.{acc, samples}
use Rattle.synthesis.specs.Whole.{whole_samples, retried_at}
use Rattle.synthesis.specs.Agree.{Agree}
use Rattle.synthesis.proofs.Values as values
use Rattle.synthesis.proofs.Agree.{agree}
use Rattle.excitation.specs.Excitation.{taking}
use Rattle.decoder.specs.Retry.{Retry}
use Rattle.decoder.proofs.Retry.{retry}
use Rattle.applied.specs.Synthesis.{row, history, still, over, AgreeApplied, feedback, past, RetryApplied}
use Rattle.applied.proofs.Concrete.{fits_by}

-- ---- the clamped steps, computed
still_samples : samples 10 row still history ≡ replicate 40 (pos 32767)
unfolding acc recursion l_mult l_sub l_shl l_add clamp asr
still_samples = refl

over_first : take 1 (samples 10 row over history) ≡ pos 32767 ∷ []
unfolding acc recursion l_mult l_sub l_shl l_add clamp asr
over_first = refl

again_samples : samples 10 row (quartered feedback) history ≡ pos 2 ∷ replicate 39 (pos 0)
unfolding acc recursion l_mult l_sub l_shl l_add clamp asr
again_samples = refl

quarter_feedback : quartered feedback ≡ pos 2 ∷ minus 2 ∷ replicate 38 (pos 0)
unfolding asr
quarter_feedback = refl

quarter_past : taking (quartered past) (quartered feedback) ≡ replicate 114 (minus 1) ++ (pos 2 ∷ minus 2 ∷ replicate 38 (pos 0))
unfolding asr
quarter_past = refl

-- ---- agree
still_agree : Agree 10 row still history
still_agree = agree 10 row still history refl

over_agree : Agree 10 row over history
over_agree = agree 10 row over history refl

-- the samples before the place n
module _ (xs : List ℤ) (n : ℕ) (e : retried_at 10 row xs history ≡ n) (k : Agree 10 row xs history) where
  before : take n (samples 10 row xs history) ≡ take n (whole_samples 10 row xs history)
  before = subst (λ (n : ℕ). take n (samples 10 row xs history) ≡ take n (whole_samples 10 row xs history)) e k.before

pub agree_applied : AgreeApplied
agree_applied =
    let p = sym still_agree.place ∙ values.still in
    let f = sym still_agree.flag ∙ values.still_flag in
    let q = sym over_agree.place ∙ values.over in
    record {
      still_place = p;
      still_flag = f;
      still_before = sym (before still 40 p still_agree) ∙ ap (take 40) still_samples;
      still_all = sym (still_agree.all f) ∙ still_samples;
      over_place = q;
      over_flag = sym over_agree.flag ∙ values.over_flag;
      over_before = sym (before over 1 q over_agree) ∙ over_first;
    }

-- ---- retry
still_retry : Retry (record { row = row; feedback = feedback; excitation = still }) history past
still_retry = retry (record { row = row; feedback = feedback; excitation = still }) history past refl

over_retry : Retry (record { row = row; feedback = feedback; excitation = over }) history past
over_retry = retry (record { row = row; feedback = feedback; excitation = over }) history past refl

pub retry_applied : RetryApplied
retry_applied =
    let n = agree_applied.still_flag in
    let y = agree_applied.over_flag in
    record {
      still_flag = still_retry.flag ∙ n;
      still_place = still_retry.place ∙ agree_applied.still_place;
      still_samples = still_retry.unretried_samples n ∙ agree_applied.still_all;
      still_feedback = still_retry.unretried_feedback n;
      still_past = still_retry.unretried_past n;
      over_flag = over_retry.flag ∙ y;
      over_place = over_retry.place ∙ agree_applied.over_place;
      over_samples = over_retry.retried_samples y ∙ again_samples;
      over_feedback = over_retry.retried_feedback y ∙ quarter_feedback;
      over_past = over_retry.retried_past y ∙ quarter_past;
      over_small = over_retry.retried_small y (fits_by past refl) (fits_by feedback refl);
    }
