-- `table::rows::list_entries` meets its contract. The invariant of its loop: the rows of the entries below k stand in the list, and the ends that are kept are of this table.
use mathlib.Core.Path.{◌≡◌}
use Rattle.table.proofs.RowLaws.{Listing}
use Rattle.table.proofs.rows.list_entries.Given as goal

abbrev pub invariant-loop-k : goal.invariant-loop-k
invariant-loop-k l = record { rows : Listing l.base l.fn.table l.initial.list l.list l.k; same : l.ends.table.now ≡ l.fn.table }
