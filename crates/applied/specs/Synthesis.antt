-- `Agree` (synthesis/specs/Agree.antt) and `Retry` (decoder/specs/Retry.antt) applied to one row, a zero history and two excitations, one that overflows
-- nowhere and one that overflows in its second sample: each of their fields, written out in numbers. The theorems are in proofs/Synthesis.antt.
use Rattle.std.specs.Prelude.{◌≡◌, true, false, List, [], ◌∷◌, ◌++◌, ℕ, ℤ, pos, negsuc, take, replicate, ◌≤ℤ◌}
use Rattle.lists.specs.Lists.{minus, at}
use Rattle.synthesis.specs.Whole.{whole_samples, retried, retried_at}
use Rattle.decoder.specs.Subframe.{SynthesisResult, synthesis_result}

-- each sample is the excitation and the sample before
abbrev pub row : List ℤ
row = pos 4096 ∷ minus 4096 ∷ replicate 9 (pos 0)

abbrev pub history : List ℤ
history = replicate 10 (pos 0)

abbrev pub still : List ℤ
still = pos 32767 ∷ replicate 39 (pos 0)

abbrev pub over : List ℤ
over = pos 32767 ∷ pos 1 ∷ replicate 38 (pos 0)

-- ---- of `agree`, the whole numbers: what they are is known of the clamped steps
pub record AgreeApplied : Type 0 where
  pub still_place : retried_at 10 row still history ≡ 40
  pub still_flag : retried 10 row still history ≡ false
  pub still_before : take 40 (whole_samples 10 row still history) ≡ replicate 40 (pos 32767)
  pub still_all : whole_samples 10 row still history ≡ replicate 40 (pos 32767)
  pub over_place : retried_at 10 row over history ≡ 1
  pub over_flag : retried 10 row over history ≡ true
  pub over_before : take 1 (whole_samples 10 row over history) ≡ pos 32767 ∷ []

-- ---- of `retry`, what comes of a subframe
abbrev pub feedback : List ℤ
feedback = pos 8 ∷ minus 5 ∷ replicate 38 (pos 0)

abbrev pub past : List ℤ
past = replicate 40 (pos 9) ++ replicate 114 (minus 3)

abbrev pub of : List ℤ → SynthesisResult
of excitation = synthesis_result (record { row = row; feedback = feedback; excitation = excitation }) history past

pub record RetryApplied : Type 0 where
  pub still_flag : (of still).retried ≡ false
  pub still_place : (of still).place ≡ 40
  pub still_samples : (of still).samples ≡ replicate 40 (pos 32767)
  pub still_feedback : (of still).feedback ≡ pos 8 ∷ minus 5 ∷ replicate 38 (pos 0)
  pub still_past : (of still).past ≡ replicate 114 (minus 3) ++ (pos 8 ∷ minus 5 ∷ replicate 38 (pos 0))
  -- retried: each number >> 2, and the samples are those of the quartered feedback
  pub over_flag : (of over).retried ≡ true
  pub over_place : (of over).place ≡ 1
  pub over_samples : (of over).samples ≡ pos 2 ∷ replicate 39 (pos 0)
  pub over_feedback : (of over).feedback ≡ pos 2 ∷ minus 2 ∷ replicate 38 (pos 0)
  pub over_past : (of over).past ≡ replicate 114 (minus 1) ++ (pos 2 ∷ minus 2 ∷ replicate 38 (pos 0))
  pub over_small : (i : ℕ) → (negsuc 8191 ≤ℤ at (of over).past i) × (at (of over).past i ≤ℤ pos 8191)
