-- `Source::packed_texts` meets its contract. The invariant: the names before entry k - 1 are passed.
use Rattle.std.proofs.Common.{refl, arith}
use Rattle.table_writing.proofs.Packed.{packed-first, packed-next, packed-last}
use Rattle.table_writing.proofs.source.Source.packed_texts.Goals as goal

pub loop-k-init : goal.loop-k-init
loop-k-init c =
    rw (c.bytes-bytes.ensures.bytes, c.count-count.ensures.value) (packed-first c.args.self.now _ _ c.count-count.ensures.valid (omega arith) (omega (arith, rw c.bytes-bytes.ensures.bytes at c.name_offset.ensures.value)))

pub loop-k-preserved : goal.loop-k-preserved
loop-k-preserved c = packed-next _ _ _ _ _ c.loop-k.invariant _ c.loop-k-test.true (omega arith) c.if-next-last.false c.if-bytes-next-ne0.false

pub returns : goal.returns
returns c =
    let e = c.bytes-bytes.ensures.bytes in
    let name = rw (← c.count-count.ensures.value) at c.name.ensures in
    rw e at (packed-last _ _ _ _ _ c.loop-k.invariant c.loop-k-test.false _ _ refl (omega arith) (rw (← e) at name))
