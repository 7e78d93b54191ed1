-- `read` meets its contract: the state that was read and what stands before it, or the refusal and nothing.
use Rattle.std.proofs.Common.{refl, sym, arith, length-take-le}
use Rattle.record.proofs.Reader.{read_accepted, read_refused}
use Rattle.record.proofs.read.Goals as goal

pub slice_bounds-result-end : goal.slice_bounds-result-end
slice_bounds-result-end c = sym (length-take-le c.in-Ok.found.note_length c.args.bytes.now (omega (arith, c.in-Ok.ensures.1.1)))

pub returns-in-Ok : goal.returns-in-Ok
returns-in-Ok c = let f = c.in-Ok.ensures in (read_accepted c.args.bytes.now f.0 f.1.0 f.1.1, refl)

pub returns-in-Err : goal.returns-in-Err
returns-in-Err c = (read_refused c.args.bytes.now c.in-Err.ensures c.refused.ensures, refl)
