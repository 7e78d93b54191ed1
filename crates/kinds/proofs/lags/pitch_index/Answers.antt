-- `lags::pitch_index` meets its contract: an accepted index is a byte.
use Rattle.std.proofs.Common.{◌+◌, ap}
use Rattle.lists.specs.Lists.{at}
use Rattle.outcome.specs.Outcome.{is_accepted}
use Rattle.kinds.proofs.Sheets.{byte_fits}
use Rattle.kinds.proofs.Groups.{index_byte}
use Rattle.kinds.proofs.lags.pitch_index.Goals as goal

pub overflow_cast-result : goal.overflow_cast-result
overflow_cast-result c =
    let a = c.args in
    let r = index_byte a.sheet.now (ap is_accepted c.requires.accepted) a.subframe c.requires.place.0 in
    (byte_fits (at a.sheet.now (10 + a.subframe)) r.0 r.1).0

pub returns : goal.returns
returns c =
    let a = c.args in
    let r = index_byte a.sheet.now (ap is_accepted c.requires.accepted) a.subframe c.requires.place.0 in
    (byte_fits (at a.sheet.now (10 + a.subframe)) r.0 r.1).1
