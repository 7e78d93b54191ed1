-- `capi::mr74_read` meets its contract: what does not fit is left; else the reader's state and note are given, and the place is low enough for the code.
use Rattle.std.proofs.Common.{ap}
use Rattle.record.specs.Record.{ReadResult}
use Rattle.capi.proofs.Codes.{read_place}
use Rattle.capi.proofs.Calls.{read_unfit, read_given}
use Rattle.capi.proofs.mr74_read.Goals as goal

pub returns-in_default : goal.returns-in_default
returns-in_default c = let a = c.args in read_unfit a.bytes.now a.state.now a.note.now c.in_default.ensures.cases

pub returns : goal.returns
returns c = let a = c.args in read_given a.bytes.now a.state.now a.note.now c.in-Some.ensures.cases.long c.read-reading.ensures.0 c.code.ensures c.write_body.ensures

pub code-requires : goal.code-requires
code-requires c = rw (ap (λ (r : ReadResult). r.answer) c.read-reading.ensures.0) (read_place c.args.bytes.now)
