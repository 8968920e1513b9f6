-- `small_tables::shape::record` meets its contract: a parent is not behind its entry, and so a small number.
use Rattle.std.proofs.Common.{arith}
use Rattle.tree.proofs.Laws.Nesting.{parent-most}
use Rattle.small_tables.specs.Shapes.{tree_of}
use Rattle.small_tables.proofs.shape.record.Goals as goal

pub overflow_cast-result : goal.overflow_cast-result
overflow_cast-result c = omega (arith, c.parent.ensures, parent-most (tree_of c.args.shape.now) c.args.k)
