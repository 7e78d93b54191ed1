-- What inner functions of the frame calls give. The contracts of the calls themselves do not use it.
use Rattle.std.specs.Prelude.{List, ℤ, replicate}
use Rattle.gain.specs.declared.GainDecoder.{GainDecoder}
use Rattle.state.specs.declared.State.{State}
use Rattle.outcome.specs.Outcome.{Outcome}
use Rattle.kinds.specs.Kind.{Kind}
use Rattle.mr74.specs.declared.EnergiesAnswer.{EnergiesAnswer}
use Rattle.mr74.specs.Frame.{EnergiesResult, zero_rows, call_trace, energies_result_of}

-- a call of any kind
unfoldable pub kind_call : Kind → List ℤ → List ℤ → State → List ℤ → EnergiesResult
kind_call kind energies sheet s out = energies_result_of (call_trace kind energies sheet s out)

-- the answer of a refused call
abbrev pub refused_answer : Outcome → State → GainDecoder → EnergiesAnswer
refused_answer o s g = record { frame = record { outcome = o; rows = zero_rows; places = replicate 4 40; next = s }; gain_decoder = g }
