-- `write_each` ends: a call of itself is with one entry more. In its loop the tables with a file at k and with the
-- nexts so far are written, and the entries before k are as they were.
use Rattle.std.proofs.Common.{◌-◌, length}
use Rattle.small_tables.proofs.Writing.{IsUnderway}
use Rattle.small_tables.proofs.tables.+write_each.Given as goal

abbrev pub decreases-write_each : goal.decreases-write_each
decreases-write_each l = length l.shape.now - l.k

abbrev pub invariant-loop-next : goal.invariant-loop-next
invariant-loop-next l = IsUnderway l.fn.shape l.k l.fn.at l.fn.list l.next l.shape l.at l.list
