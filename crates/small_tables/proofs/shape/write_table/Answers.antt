-- `small_tables::shape::write_table` meets its contract: a table is its records one after the other, and then its letters.
use Rattle.std.proofs.Common.{◌≡◌, ◌+◌, ◌-◌, ◌*◌, ◌≤◌, length, sym, ◌∙◌, arith, append-nil}
use Rattle.endian.specs.Laws.Stored.{put-none}
use Rattle.tree.specs.Inner.Patch.{records}
use Rattle.small_tables.proofs.Laws.Bytes.{letters, table-bytes, record-put, letter-put}
use Rattle.small_tables.proofs.Laws.Trees.{table-size}
use Rattle.small_tables.proofs.shape.write_table.Goals as goal

pub loop-k-init : goal.loop-k-init
unfolding records
loop-k-init c = sym (put-none c.args.table.now 0)

pub write-requires-clause-within : goal.write-requires-clause-within
write-requires-clause-within c = omega (arith, table-size c.args.shape.now c.requires.some)

pub write-requires-clause-small : goal.write-requires-clause-small
write-requires-clause-small c = omega (arith, c.record.ensures.name)

pub loop-k-preserved : goal.loop-k-preserved
loop-k-preserved c =
    let s = c.args.shape.now in
    let w : 12 * c.loop-k.k + 12 ≤ length c.args.table.now = omega (arith, table-size s c.requires.some) in
    c.write.ensures ∙ rw (c.loop-k.invariant, c.record.ensures.bytes) (record-put c.args.table.now s c.loop-k.k w)

pub loop-letter-init : goal.loop-letter-init
unfolding letters
loop-letter-init c =
    let e : c.loop-k.k ≡ length c.args.shape.now = omega (arith, c.loop-k-test.false) in
    c.loop-k.invariant ∙ rw (e, append-nil)

pub write_u8-requires : goal.write_u8-requires
write_u8-requires c = omega (arith, table-size c.args.shape.now c.requires.some)

pub write_u8-requires-in-loop-letter : goal.write_u8-requires-in-loop-letter
write_u8-requires-in-loop-letter c = omega (arith, table-size c.args.shape.now c.requires.some)

pub loop-letter-preserved : goal.loop-letter-preserved
loop-letter-preserved c =
    let s = c.args.shape.now in
    let w : 12 * length s + 2 * c.loop-letter.letter + 2 ≤ length c.args.table.now = omega (arith, table-size s c.requires.some) in
    c.write_u8-in-loop-letter.ensures
    ∙ rw (c.write_u8.ensures, c.loop-letter.invariant) (letter-put c.args.table.now s c.loop-letter.letter w)

pub returns : goal.returns
returns c =
    let s = c.args.shape.now in
    let e : c.loop-letter.letter ≡ length s - 1 = omega (arith, c.loop-letter-test.false) in
    c.loop-letter.invariant ∙ rw (e, table-bytes s)
