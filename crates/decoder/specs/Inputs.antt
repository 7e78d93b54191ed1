-- What a frame is decoded from: ten LSFs and, of each of its four subframes, lag, gains and innovation. Every kind of sheet comes to this.
use Rattle.std.specs.Prelude.{◌≡◌, List, [], ◌∷◌, ℤ, pos, length, ◌≤ℤ◌}
use Rattle.lists.specs.Lists.{Every}
use Rattle.pitch.specs.Lag.{Lag, lag_of}
use Rattle.spectral.specs.Lsp.{Frequencies}
use Rattle.decoder.specs.declared.Parameters.{Parameters}
use Rattle.decoder.specs.declared.Inputs.{Inputs}

-- of a subframe: lag, pitch gain (Q14), code gain (Q1), forty numbers of innovation (Q13)
pub record SubframeInputs : Type 0 where
  pub lag : Lag
  pub pitch : ℤ
  pub code : ℤ
  pub innovation : List ℤ

-- of a frame
pub record FrameInputs : Type 0 where
  pub lsfs : List ℤ
  pub subframes : List SubframeInputs

-- ---- the code's
abbrev pub subframe_of : Parameters → SubframeInputs
subframe_of p = record { lag = lag_of p.lag; pitch = p.gains.pitch.0; code = p.gains.code.0; innovation = p.innovation.0 }

abbrev pub inputs_of : Inputs → FrameInputs
inputs_of i = record { lsfs = i.lsfs; subframes = subframe_of i.a ∷ subframe_of i.b ∷ subframe_of i.c ∷ subframe_of i.d ∷ [] }

-- ---- what the checks of an accepted call have shown of its inputs; of the code's, the types `Parameters` and `Inputs` say it, but for the pitch gain
-- the lag lies in 19..=144, and the pitch gain is not negative
pub record UsableSubframe (p : SubframeInputs) : Type 0 where
  pub from : pos 19 ≤ℤ p.lag.samples
  pub to : p.lag.samples ≤ℤ pos 144
  pub pitch : pos 0 ≤ℤ p.pitch

-- ten LSFs, each in 0..=16384, and four subframes
pub record Usable (f : FrameInputs) : Type 0 where
  pub ten : length f.lsfs ≡ 10
  pub lsfs : Frequencies f.lsfs
  pub four : length f.subframes ≡ 4
  pub subframes : Every UsableSubframe f.subframes
