-- The trace of a frame tells every division that it reaches: `DivisionsOfInputs`, and of an accepted call `EveryDivision`.
use Rattle.std.proofs.Common.{ap₂, ◌∙◌, ℕ, ◌+◌, length, length-append}
use Rattle.decoder.specs.Core.{samples_of, quotients_of}
use Rattle.decoder.proofs.Divisions.{core_divisions}
use Rattle.postfilter.proofs.Divisions.{post_divisions}
use Rattle.kinds.specs.Kind.{call_outcome}
use Rattle.kinds.specs.Prepass.{prepared}
use Rattle.mr74.specs.Frame.{core_result_of, post_result_of, call_trace}
use Rattle.mr74.specs.Divisions.{DivisionsOfInputs, EveryDivision}

pub divisions_of_inputs : DivisionsOfInputs
divisions_of_inputs o p s =
    let c = core_result_of p.inputs s in
    length-append (quotients_of c.subframes) (post_result_of p.inputs s).quotients
    ∙ ap₂ (λ (m n : ℕ). m + n) (core_divisions s.core p.inputs) (post_divisions s.post c.rows (samples_of c.subframes))

pub every_division : EveryDivision
unfolding call_trace
every_division kind energies sheet s out e = rw e (divisions_of_inputs (call_outcome kind sheet s (length out)) (prepared kind energies sheet s) s)
