-- `capi_c::mr74_gain_decode`: the call of capi, with each buffer in its place.
use Rattle.std.proofs.Common.{to_z-of_z}
use Rattle.capi_c.proofs.mr74_gain_decode.Goals as goal

pub returns : goal.returns
returns c = rw (to_z-of_z c.ranges.index) at c.mr74_gain_decode.ensures
