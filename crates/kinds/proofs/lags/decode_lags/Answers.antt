-- `decode_lags` meets its contract: what the check has shown of the indices gives lags in their range.
use Rattle.std.proofs.Common.{ap}
use Rattle.outcome.specs.Outcome.{is_accepted}
use Rattle.kinds.proofs.Groups.{pitch_indices}
use Rattle.kinds.proofs.LagRanges.{pair_in}
use Rattle.kinds.proofs.lags.decode_lags.Goals as goal

pub invariant_of-result : goal.invariant_of-result
invariant_of-result c =
    let r = pitch_indices c.args.sheet.now (ap is_accepted c.requires.accepted) in
    let early = pair_in c.from_absolute-a.result c.from_relative-b.result c.pitch_index.ensures c.pitch_index-2.ensures c.from_absolute-a.ensures c.from_relative-b.ensures r.a r.b in
    let late = pair_in c.from_absolute-c.result c.from_relative-d.result c.pitch_index-3.ensures c.pitch_index-4.ensures c.from_absolute-c.ensures c.from_relative-d.ensures r.c r.d in
    record { first = early.0; second = early.1; third = late.0; fourth = late.1 }
