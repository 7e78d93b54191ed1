-- The synthesis of a subframe with its retry: Decoder_amr of TS 26.073; docs/BENCH.md, "Synthesis". By clamped steps.
use Rattle.std.specs.Prelude.{Bool, true, false, not, if◌then◌else◌, List, ℕ, ◌==◌, ℤ}
use Rattle.basicop.specs.Ops.{quartered}
use Rattle.synthesis.specs.Synthesis.{samples, overflowed, overflowed_at}
use Rattle.excitation.specs.Excitation.{taking}
use Rattle.decoder.specs.declared.SynthesisOutput.{SynthesisOutput}

-- what the synthesis is fed: the row a0..a10, the feedback before any quartering, the first excitation
pub record SynthesisInput : Type 0 where
  pub row : List ℤ
  pub feedback : List ℤ
  pub excitation : List ℤ

-- what comes of it: whether it was retried, the first sample of the first pass at which a step clamped (40 where none did), the synthesis samples,
-- the feedback, and the past with that feedback taken in
pub record SynthesisResult : Type 0 where
  pub retried : Bool
  pub place : ℕ
  pub samples : List ℤ
  pub feedback : List ℤ
  pub past : List ℤ

-- a flag, by the place of the subframe's first pass: not 40
abbrev pub flag_of : ℕ → Bool
flag_of place = not (place == 40)

-- nothing clamped: the samples of the first pass
abbrev pub unretried_result : SynthesisInput → List ℤ → List ℤ → SynthesisResult
unretried_result f history past =
    record {
      retried = false;
      place = overflowed_at 10 f.row f.excitation history;
      samples = samples 10 f.row f.excitation history;
      feedback = f.feedback;
      past = taking past f.feedback;
    }

-- Overflow: feedback and past are each >> 2, and Syn_filt runs again on that feedback, from the same history; its own clamps are not reported
abbrev pub retried_result : SynthesisInput → List ℤ → List ℤ → SynthesisResult
retried_result f history past =
    record {
      retried = true;
      place = overflowed_at 10 f.row f.excitation history;
      samples = samples 10 f.row (quartered f.feedback) history;
      feedback = quartered f.feedback;
      past = taking (quartered past) (quartered f.feedback);
    }

unfoldable pub synthesis_result : SynthesisInput → List ℤ → List ℤ → SynthesisResult
synthesis_result f history past = if overflowed 10 f.row f.excitation history then retried_result f history past else unretried_result f history past

-- what the code gives of it
abbrev pub synthesis_output : SynthesisResult → SynthesisOutput
synthesis_output s = record { place = s.place; samples = s.samples; feedback = s.feedback; past = s.past }
