-- `table::path::lookup` meets its contract: the count is the number of entries.
use native.Mathlib.Omega.{arith}
use borrow.Author.Tests.{lt-ltb, le-ltb}
use Rattle.tree.specs.Table.{count}
use Rattle.tree.specs.Lookup.{lookup}
use Rattle.tree.proofs.Laws.Accepted.{length-nodes_of}
use Rattle.table.proofs.path.lookup.Goals as goal

pub returns-then-len-place-clause-value : goal.returns-then-len-place-clause-value
unfolding lookup
returns-then-len-place-clause-value c =
    let T = c.args.table.now in
    rw (length-nodes_of T, le-ltb c.args.start (count T) (omega arith))

pub returns-clause-value : goal.returns-clause-value
unfolding lookup
returns-clause-value c =
    let T = c.args.table.now in
    rw (length-nodes_of T, lt-ltb c.args.start (count T) (omega arith)) c.follow.ensures.value
