-- `table_writing::writer::write_table` meets its contract: the root reaches to the end, so its directory is the entries from 1 on, and these with the root
-- are `encode` of the table's entries.
use native.Mathlib.Omega.{arith}
use mathlib.Core.Path.{ap, ◌∙◌}
use lib.ListN.{length}
use Rattle.tree.specs.Table.{count}
use Rattle.table_writing.proofs.Whole.{encode-size}
use Rattle.table_writing.proofs.Turn.{written-room, written-size, written-whole}
use Rattle.table_writing.proofs.writer.write_table.Goals as goal

pub write_root-requires : goal.write_root-requires
write_root-requires c =
    let tab = c.args.table.now in
    let v = c.requires.valid in
    let z = encode-size tab (count tab) v in
    rw c.count-count.ensures.value (rw c.new-source.ensures record { room = omega (arith, v.some, c.requires.room); few = omega (arith, v.few) })

pub write_directory-requires-clause-room : goal.write_directory-requires-clause-room
write_directory-requires-clause-room c =
    let w = c.new-writer.ensures in
    written-room _ _ c.args.out.now _ _ _ c.requires.valid c.new-source.ensures c.count-count.ensures.value w.text (length c.args.out.now) (ap length w.out ∙ c.write_root.auto.out) c.requires.room c.requires.small

pub returns-clause-value : goal.returns-clause-value
returns-clause-value c =
    written-size _ _ c.args.out.now c.new-writer.result.out.now _ _ c.requires.valid c.new-source.ensures c.count-count.ensures.value c.new-writer.ensures.text _ c.write_directory.ensures.text

pub returns-clause-out_after : goal.returns-clause-out_after
returns-clause-out_after c =
    let w = c.new-writer.ensures in
    let d = c.write_directory.ensures in
    let e = written-whole _ _ _ _ _ _ c.requires.valid c.new-source.ensures c.count-count.ensures.value w.text _ c.requires.room (w.out ∙ c.write_root.ensures) d.out in
    grind (arith, e)
