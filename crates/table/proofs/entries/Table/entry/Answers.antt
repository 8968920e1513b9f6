-- `Table::entry` meets its contract: the count is the number of entries.
use native.Mathlib.Omega.{arith}
use borrow.Author.Tests.{lt-ltb, le-ltb}
use Rattle.tree.specs.Table.{count}
use Rattle.tree.proofs.Laws.Accepted.{length-nodes_of}
use Rattle.table.proofs.entries.Table.entry.Goals as goal

pub returns-then-len-place : goal.returns-then-len-place
returns-then-len-place c =
    let T = c.args.self.now in
    rw (length-nodes_of T, le-ltb c.args.k (count T) (omega arith))

pub returns : goal.returns
returns c =
    let T = c.args.self.now in
    rw (length-nodes_of T, lt-ltb c.args.k (count T) (omega arith)) (cc)
