-- `capi::mr74_frame_indexed`: the call of any kind, with the tables of logarithm and power in their places.
use Rattle.std.proofs.Common.{refl}
use Rattle.capi.proofs.Buffers.{handed_on}
use Rattle.capi.proofs.mr74_frame_indexed.Goals as goal

pub returns : goal.returns
returns c =
    let a = c.args in
    let logs = handed_on c.lent_numbers-logs.result {N = 33} refl a.log_table.now c.lent_numbers-logs.ensures c.as_lent.ensures in
    let pows = handed_on c.lent_numbers-pows.result {N = 33} refl a.pow_table.now c.lent_numbers-pows.ensures c.as_lent-2.ensures in
    rw (← logs, ← pows) c.call.ensures
