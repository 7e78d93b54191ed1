-- `capi::mr74_frame_erased`: the call of any kind.
use Rattle.capi.proofs.mr74_frame_erased.Goals as goal

pub returns : goal.returns
returns c = c.call.ensures
