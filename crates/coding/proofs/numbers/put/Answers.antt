-- `coding::put` meets its contract: what is put so far is the bytes of as many numbers.
use Rattle.std.proofs.Common.{refl, arith, ◌^◌, ◌<◌, rules}
use lib.Signed.{mag}
use Rattle.lists.specs.Lists.{at}
use Rattle.coding.specs.Bytes.{bytes_of}
use Rattle.coding.proofs.Bytes.{bytes_are, put_more, put_done}
use Rattle.coding.proofs.numbers.put.Goals as goal

pub loop-i-init : goal.loop-i-init
unfolding bytes_of
loop-i-init c = refl

pub loop-i-preserved : goal.loop-i-preserved
loop-i-preserved c =
    let h : mag (at c.args.src.now c.loop-i.i) < 2 ^ 15 = search rules in
    let b = bytes_are (at c.args.src.now c.loop-i.i) h c.to_le_bytes.ensures in
    put_more c.loop-i.dst c.args.src.now c.loop-i.i _ _ (omega arith) c.loop-i-test.true b.0 b.1 c.loop-i.invariant

pub returns : goal.returns
returns c = put_done c.loop-i.dst c.args.src.now c.loop-i.i (omega arith) (omega arith) c.loop-i.invariant
