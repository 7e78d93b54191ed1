-- What is said of retries (docs/BENCH.md, "Recurrence"), of one subframe: the definition's clamped steps against the whole numbers.
-- The theorem is `retry` in proofs/Retry.antt: for every row, feedback, first excitation, history of ten numbers and past.
use Rattle.std.specs.Prelude.{◌≡◌, true, false, List, ℕ, ℤ, pos, negsuc, ◌≤ℤ◌}
use Rattle.std.specs.Int.{w16}
use Rattle.std.proofs.Common.{SFits}
use Rattle.lists.specs.Lists.{at}
use Rattle.basicop.specs.Ops.{quartered}
use Rattle.synthesis.specs.Synthesis.{samples}
use Rattle.synthesis.specs.Whole.{whole_samples, retried, retried_at}
use Rattle.excitation.specs.Excitation.{taking}
use Rattle.decoder.specs.Subframe.{SynthesisInput, synthesis_result}

pub record Retry (f : SynthesisInput) (history past : List ℤ) : Type 0 where
  -- a flag is raised exactly where a whole number on the first excitation leaves the range of 32 bits, and the place is the first such sample
  pub flag : (synthesis_result f history past).retried ≡ retried 10 f.row f.excitation history
  pub place : (synthesis_result f history past).place ≡ retried_at 10 f.row f.excitation history
  -- unretried: the samples are those of the whole numbers, and the past takes in the feedback
  pub unretried_samples : retried 10 f.row f.excitation history ≡ false
      → (synthesis_result f history past).samples ≡ whole_samples 10 f.row f.excitation history
  pub unretried_feedback : retried 10 f.row f.excitation history ≡ false
      → (synthesis_result f history past).feedback ≡ f.feedback
  pub unretried_past : retried 10 f.row f.excitation history ≡ false
      → (synthesis_result f history past).past ≡ taking past f.feedback
  -- retried: feedback and past are quartered once, rounding down, and the samples are those of the clamped steps on that feedback, from the same history
  pub retried_samples : retried 10 f.row f.excitation history ≡ true
      → (synthesis_result f history past).samples ≡ samples 10 f.row (quartered f.feedback) history
  pub retried_feedback : retried 10 f.row f.excitation history ≡ true
      → (synthesis_result f history past).feedback ≡ quartered f.feedback
  pub retried_past : retried 10 f.row f.excitation history ≡ true
      → (synthesis_result f history past).past ≡ taking (quartered past) (quartered f.feedback)
  -- after a retry every number of the past lies in -8192..=8191
  pub retried_small : retried 10 f.row f.excitation history ≡ true
      → ((i : ℕ) → SFits w16 (at past i)) → ((i : ℕ) → SFits w16 (at f.feedback i))
      → (i : ℕ) → (negsuc 8191 ≤ℤ at (synthesis_result f history past).past i) × (at (synthesis_result f history past).past i ≤ℤ pos 8191)
