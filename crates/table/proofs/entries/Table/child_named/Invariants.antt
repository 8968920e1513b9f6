-- `Table::child_named` meets its contract. The invariant of its loop: entry k is a child, if it stands in the directory, no child before
-- it has the name, and none of the texts that are kept is the name.
use Prim.Native.Nat.{◌-◌, ◌≤◌}
use Rattle.tree.specs.Table.{count, nodes_of}
use Rattle.table.proofs.ChildLaws.{Searching}
use Rattle.table.proofs.Unlike.{Unlike}
use Rattle.table.proofs.entries.Table.child_named.Given as goal

abbrev pub invariant-loop-k : goal.invariant-loop-k
invariant-loop-k l = record { within : l.stop ≤ count l.self; search : Searching (nodes_of l.self) l.d l.name l.stop l.k; unlike : Unlike l.self l.name l.differs }

abbrev pub decreases-loop-k : goal.decreases-loop-k
decreases-loop-k l = l.stop - l.k
