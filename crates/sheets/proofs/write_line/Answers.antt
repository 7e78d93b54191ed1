-- `sheets::write_line` meets its contract: the line's bytes were written.
use Rattle.sheets.proofs.write_line.Goals as goal

pub returns-in-Ok-clause-ok : goal.returns-in-Ok-clause-ok
returns-in-Ok-clause-ok g c = rw c.as_bytes.ensures at c.in-Ok.ensures.bytes
