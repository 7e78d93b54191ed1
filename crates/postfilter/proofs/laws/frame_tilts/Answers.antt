-- `frame_tilts` meets its contract: the laws, as they stand.
use Rattle.postfilter.proofs.Results.{framed_any, framed_rows}
use Rattle.postfilter.proofs.laws.frame_tilts.Goals as goal

pub returns : goal.returns
returns c = record { any = framed_any; rows = framed_rows }
