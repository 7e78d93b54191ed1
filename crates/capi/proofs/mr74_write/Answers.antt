-- `capi::mr74_write` meets its contract: a state of another length leaves the bytes; else it is read and its record written, and the place is low enough for the code.
use Rattle.std.proofs.Common.{ap, ◌∙◌}
use Rattle.record.specs.Record.{WriteResult}
use Rattle.state.proofs.Checks.{taken_fields}
use Rattle.capi.specs.Capi.{state_in}
use Rattle.capi.proofs.Codes.{write_place}
use Rattle.capi.proofs.Calls.{write_unfit, write_given}
use Rattle.capi.proofs.mr74_write.Goals as goal

pub returns-in_default : goal.returns-in_default
returns-in_default c = let a = c.args in write_unfit a.state.now a.bytes.now c.in_default.ensures.cases

pub returns : goal.returns
returns c =
    let a = c.args in
    let s = c.in-Some.ensures.cases in
    write_given a.state.now a.bytes.now s.long (c.state_in.ensures ∙ ap state_in s.same) c.write.ensures c.code.ensures

pub code-requires : goal.code-requires
code-requires c = rw (ap (λ (x : WriteResult). x.outcome) c.write.ensures) (write_place c.state_in.result (rw c.state_in.ensures (taken_fields _)) c.args.bytes.now)
