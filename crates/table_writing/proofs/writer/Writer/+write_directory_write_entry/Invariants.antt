-- The cycle of calls of `write_directory` and `write_entry`. An entry calls the directory of the same number, and a directory calls entries of higher
-- numbers, so with r entries left the measure is 2r + 1 for an entry and 2r for a directory. The invariant of a directory's loop is `Upto`.
use Rattle.std.proofs.Common.{◌≡◌, ◌+◌, ◌-◌, ◌*◌}
use Rattle.tree.specs.Table.{count}
use Rattle.table_writing.proofs.Turn.{Upto}
use Rattle.table_writing.proofs.writer.Writer.+write_directory_write_entry.Given as goal

abbrev pub decreases-write_directory : goal.decreases-write_directory
decreases-write_directory l = 2 * (count l.source.now - l.k)

abbrev pub decreases-write_entry : goal.decreases-write_entry
decreases-write_entry l = 2 * (count l.source.now - l.k) + 1

abbrev pub invariant-write_directory-loop-c : goal.invariant-write_directory-loop-c
invariant-write_directory-loop-c l = record { written : Upto l.fn.source l.fn.self.out.now (count l.fn.source) l.k l.fn.self.text l.self.out.now l.self.text l.c; same_reference : l.self.out.ghost_name ≡ l.fn.self.out.ghost_name }

abbrev pub decreases-write_directory-loop-c : goal.decreases-write_directory-loop-c
decreases-write_directory-loop-c l = l.stop - l.c
