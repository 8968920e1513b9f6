-- `regions::turn_of` meets its contract: a table has an entry, the root.
use Rattle.std.proofs.Common.{arith}
use Rattle.tree.specs.Table.{count}
use Rattle.opened.proofs.regions.turn_of.Goals as goal

pub returns-then-program-eq0-clause-to : goal.returns-then-program-eq0-clause-to
unfolding count
returns-then-program-eq0-clause-to c = omega arith
