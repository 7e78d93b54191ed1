-- `read_state` meets its contract: the bytes are tested, then the state in them.
use Rattle.std.proofs.Common.{sym, ◌∙◌}
use Rattle.std.proofs.lemmas.Result.{err_from_is_err_and}
use Rattle.record.proofs.Reader.{state_decides, bytes_decide}
use Rattle.record.proofs.read_state.Goals as goal

pub returns-in_err-found : goal.returns-in_err-found
returns-in_err-found c =
    let p = err_from_is_err_and c.from_residual.result c.from_residual.ensures.1 in
    rw (p.1, p.2) (bytes_decide c.args.bytes.now c.in_err-found.ensures)

pub returns-in_err-check_state : goal.returns-in_err-check_state
returns-in_err-check_state c =
    let p = err_from_is_err_and c.from_residual-in_err-check_state.result c.from_residual-in_err-check_state.ensures.1 in
    let f = c.in_ok-found.ensures in
    rw (p.1, p.2) (state_decides c.args.bytes.now f.0 f.1.0 ∙ sym c.in_err-check_state.ensures.value)

pub returns : goal.returns
returns c = let f = c.in_ok-found.ensures in (state_decides c.args.bytes.now f.0 f.1.0 ∙ sym c.in_ok-check_state.ensures.value, f.1)
