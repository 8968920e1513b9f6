-- `table::acceptance::count` meets its contract: the larger of 1 and the root's next.
use native.Mathlib.Omega.{arith}
use Rattle.tree.specs.Table.{count}
use Rattle.table.proofs.acceptance.count.Goals as goal

pub returns : goal.returns
unfolding count
returns c = omega (arith, c.max.ensures, c.read_u32.ensures)
