-- What the code's values of this crate say, in the words of the definitions.
use Rattle.std.specs.Prelude.{List, [], ◌∷◌}
use Rattle.pitch.specs.Lag.{Lag, lag_of}
use Rattle.decoder.specs.declared.Parameters.{Parameters}
use Rattle.decoder.specs.Inputs.{subframe_of, inputs_of}
use Rattle.gain.specs.declared.GainDecoder.{GainDecoder}
use Rattle.gain_concealment.specs.declared.UsedGains.{UsedGains}
use Rattle.kinds.specs.declared.GainMemory.{GainMemory}
use Rattle.kinds.specs.declared.lags.Lags.{Lags}
use Rattle.kinds.specs.declared.Prepared.{Prepared}
use Rattle.kinds.specs.Kind.{SubframeGains}
use Rattle.kinds.specs.Prepass.{Step, PreparedFrame}

abbrev pub lag_list : Lags → List Lag
lag_list l = lag_of l.a ∷ lag_of l.b ∷ lag_of l.c ∷ lag_of l.d ∷ []

abbrev pub gains_with : UsedGains → GainDecoder → SubframeGains
gains_with used decoder = record { used = used; gain_decoder = decoder }

-- a subframe's inputs, with what goes on to the next, and a frame's
abbrev pub step_of : Parameters → GainMemory → Step
step_of p m = record { inputs = subframe_of p; memory = m }

abbrev pub prepared_of : Prepared → PreparedFrame
prepared_of p = record { inputs = inputs_of p.inputs; concealment = p.concealment; energies = p.gain_decoder.energies }
