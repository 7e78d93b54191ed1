-- `state_before` meets its contract: of either version, the body is the last of the bytes, or there are too few.
use Rattle.std.proofs.Common.{ap, sym, ◌∙◌, List, ◌++◌, append-nil, ℕ}
use Rattle.state.specs.Layout.{state_of}
use Rattle.coding.specs.Bytes.{words}
use Rattle.coding.specs.Body.{missing}
use Rattle.record.proofs.Reader.{body_short, body_found}
use Rattle.record.proofs.checks.state_before.Goals as goal

pub returns-in_default : goal.returns-in_default
returns-in_default c = rw c.in-Current.is (body_short _ 426 c.in_default.ensures.cases)

pub returns-in_default-last_chunk : goal.returns-in_default-last_chunk
returns-in_default-last_chunk c = rw c.in-First.is (body_short _ 394 c.in_default-last_chunk.ensures.cases)

pub returns-in-Some : goal.returns-in-Some
returns-in-Some c =
    let f = c.in-Some.ensures.cases in
    rw c.in-Current.is (body_found _ 426 f.0, c.state_in.ensures ∙ ap state_of (ap words f.1.same ∙ sym (append-nil _)))

pub returns-in-Some-last_chunk : goal.returns-in-Some-last_chunk
returns-in-Some-last_chunk c =
    let f = c.in-Some-last_chunk.ensures.cases in
    rw c.in-First.is (body_found _ 394 f.0, c.first_state_in.ensures ∙ ap (λ (l : List ℕ). state_of (words l ++ missing)) f.1.same)
