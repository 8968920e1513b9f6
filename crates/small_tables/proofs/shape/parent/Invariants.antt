-- `small_tables::shape::parent` meets its contract: none from p on has entry k among its entries.
use Rattle.std.proofs.Common.{◌≡◌}
use Rattle.tree.specs.Table.{parent_below, parent_of}
use Rattle.small_tables.specs.Shapes.{tree_of}
use Rattle.small_tables.proofs.shape.parent.Given as goal

abbrev pub invariant-loop-p : goal.invariant-loop-p
invariant-loop-p l = parent_of (tree_of l.shape) l.k ≡ parent_below (tree_of l.shape) l.k l.p
