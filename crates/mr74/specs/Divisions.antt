-- How many divisions a frame reaches (docs/BENCH.md, "Recurrence"): a divisor is any number that the definition divides by, at a division that it reaches.
-- A count by the cases that divide, beside the quotients that the trace tells. The theorems are `divisions_of_inputs` and `every_division` in proofs/Divisions.antt.
use Rattle.std.specs.Prelude.{◌≡◌, true, List, ℕ, ◌+◌, ℤ, length}
use Rattle.lists.specs.Lists.{count}
use Rattle.decoder.specs.Inputs.{FrameInputs}
use Rattle.decoder.specs.Core.{samples_of}
use Rattle.decoder.specs.Divisions.{enhancements_divide}
use Rattle.postfilter.specs.Divisions.{tilts_divide, controls_divide}
use Rattle.state.specs.declared.State.{State}
use Rattle.outcome.specs.Outcome.{Outcome, is_accepted}
use Rattle.kinds.specs.Kind.{Kind, call_outcome}
use Rattle.kinds.specs.Prepass.{PreparedFrame, prepared}
use Rattle.mr74.specs.Frame.{core_result_of, accepted_trace, call_trace}

-- the subframes whose enhancement divides, those whose tilt does, and those whose gain control does
abbrev pub enhancement_divisions : FrameInputs → State → ℕ
enhancement_divisions inputs s = count (enhancements_divide s.core.past inputs.subframes (core_result_of inputs s).subframes)

abbrev pub tilt_divisions : FrameInputs → State → ℕ
tilt_divisions inputs s = count (tilts_divide (core_result_of inputs s).rows)

abbrev pub control_divisions : FrameInputs → State → ℕ
control_divisions inputs s = count (controls_divide s.post (core_result_of inputs s).rows (samples_of (core_result_of inputs s).subframes))

abbrev pub divisions_of : FrameInputs → State → ℕ
divisions_of inputs s = enhancement_divisions inputs s + (tilt_divisions inputs s + control_divisions inputs s)

-- the trace of a frame tells each of them: of any inputs and any state, accepted or not
abbrev pub DivisionsOfInputs : Type 0
DivisionsOfInputs = (o : Outcome) (p : PreparedFrame) (s : State) → length (accepted_trace o p s).quotients ≡ divisions_of p.inputs s

-- and so does the trace of an accepted call of any kind
abbrev pub EveryDivision : Type 0
EveryDivision =
    (kind : Kind) (energies sheet : List ℤ) (s : State) (out : List ℤ)
    → is_accepted (call_outcome kind sheet s (length out)) ≡ true
    → length (call_trace kind energies sheet s out).quotients ≡ divisions_of (prepared kind energies sheet s).inputs s
