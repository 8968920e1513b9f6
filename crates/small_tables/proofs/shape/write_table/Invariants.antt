-- `small_tables::shape::write_table` meets its contract: the first k records are written, then all and the first letters.
use Rattle.std.proofs.Common.{◌≡◌, ◌++◌}
use Rattle.endian.specs.Bytes.{put}
use Rattle.tree.specs.Inner.Patch.{records}
use Rattle.small_tables.proofs.Laws.Bytes.{shape_record, letters}
use Rattle.small_tables.proofs.shape.write_table.Given as goal

abbrev pub invariant-loop-k : goal.invariant-loop-k
invariant-loop-k l = l.table ≡ put l.initial.table 0 (records (shape_record l.shape) 0 l.k)

abbrev pub invariant-loop-letter : goal.invariant-loop-letter
invariant-loop-letter l =
    l.table ≡ put l.fn.table 0 (records (shape_record l.shape) 0 l.count ++ letters 0 l.letter)
