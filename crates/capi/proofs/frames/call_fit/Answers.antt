-- `capi::call_fit`: each part is read, called and written as its function says.
use Rattle.std.proofs.Common.{rules}
use Rattle.lists.proofs.Signed.{entry_fits}
use Rattle.decoder.proofs.Results.{Held}
use Rattle.state.proofs.Checks.{taken_fields}
use Rattle.kinds.specs.Checked.{lent_kind}
use Rattle.kinds.specs.Kind.{kind_of}
use Rattle.capi.specs.Frames.{room_in}
use Rattle.capi.proofs.Codes.{frame_place}
use Rattle.capi.proofs.Buffers.{frame_places, handed_on}
use Rattle.capi.proofs.Calls.{frame_left}
use Rattle.capi.proofs.frames.call_fit.Goals as goal

pub give-requires : goal.give-requires
give-requires g c =
    let a = c.args in
    let k = lent_kind a.kind in
    let state = c.state_in.result in
    let held : Held state.core = record {
      past = record { count = search rules; fit = λ i. search (rules, entry_fits) };
      history = record { count = search rules; fit = λ i. search (rules, entry_fits) };
    } in
    rw c.call_out-answer.ensures.value
    (frame_place k _ _ state (room_in a.out.now) (rw c.state_in.ensures (taken_fields _)), frame_places k _ _ state (room_in a.out.now) held)

pub returns : goal.returns
returns g c =
    let a = c.args in
    let v = c.give.ensures in
    let t = c.call_out-answer.ensures in
    frame_left (kind_of (lent_kind a.kind)) a.sheet.now a.state.now a.out.now a.energies.now
    (handed_on c.lent_numbers-numbers.result c.requires a.sheet.now c.lent_numbers-numbers.ensures c.as_lent.ensures) c.state_in.ensures c.energies_in-opened.ensures
    t.value t.out_after v.value v.state_after v.rows_after v.places_after c.write_energies.ensures
