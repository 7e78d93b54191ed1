-- `sheets::read_full` meets its contract: what each read puts after the bytes that came before it comes after them in the input.
use Rattle.std.proofs.Common.{◌-◌, rules, length, subst}
use Rattle.std.specs.Io.KnownBytes.{Consumes}
use Rattle.std.proofs.KnownBytes.{Consumes-trans}
use Rattle.sheets.proofs.Taken.{front_grows}
use Rattle.sheets.proofs.read_full.Goals as goal

pub loop-done-preserved : goal.loop-done-preserved
loop-done-preserved g c =
    let from = c.loop-done.done in
    let bytes = c.loop-done.bytes in
    let read = c.in_ok-n.ensures in
    record {
      within = search rules;
      came = subst (Consumes _ _) (front_grows from (length bytes - from) c.in_ok-n.n bytes c.read_some.new.bytes c.loop-done.invariant.within read.bound.0) (Consumes-trans _ _ _ _ _ c.loop-done.invariant.came read.bytes.0);
    }
