-- `capi_c::mr74_frame_indexed`: the call of capi, with each buffer in its place.
use Rattle.capi_c.proofs.mr74_frame_indexed.Goals as goal

pub returns : goal.returns
returns c = c.mr74_frame_indexed.ensures
