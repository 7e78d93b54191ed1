-- `coding::put` meets its contract: what is put so far is the bytes of as many numbers.
use Rattle.std.proofs.Common.{◌*◌, ◌≡◌, take}
use Rattle.coding.specs.Bytes.{bytes_of}
use Rattle.coding.proofs.numbers.put.Given as goal

abbrev pub invariant-loop-i : goal.invariant-loop-i
invariant-loop-i l = take (2 * l.i) l.dst ≡ bytes_of (take l.i l.src)
