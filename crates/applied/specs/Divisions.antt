-- `EveryDivision` (mr74/specs/Divisions.antt) applied to the call of Examples.antt: by the cases that divide it reaches twelve divisions.
-- The theorem is `divisions_applied` in proofs/Divisions.antt.
use Rattle.std.specs.Prelude.{◌≡◌, []}
use Rattle.kinds.specs.Kind.{frame_kind}
use Rattle.kinds.specs.Prepass.{prepared}
use Rattle.mr74.specs.Divisions.{divisions_of}
use Rattle.applied.specs.Examples.{silent, loud}

abbrev pub DivisionsApplied : Type 0
DivisionsApplied = divisions_of (prepared frame_kind [] loud silent).inputs silent ≡ 12
