-- `Rows::parent_in` meets its contract. The invariant of its loop: no directory past p encloses the entry.
use Prim.Native.Nat.{◌+◌, ◌<◌}
use mathlib.Core.Path.{◌≡◌}
use Rattle.tree.specs.Table.{nodes_of, parent_of, parent_below}
use Rattle.table.proofs.rows.Rows.parent_in.Given as goal

abbrev pub invariant-loop-p : goal.invariant-loop-p
invariant-loop-p l = (l.p < l.k) × (parent_of (nodes_of l.self.table.now) l.k ≡ parent_below (nodes_of l.self.table.now) l.k (l.p + 1))

abbrev pub decreases-loop-p : goal.decreases-loop-p
decreases-loop-p l = l.p
