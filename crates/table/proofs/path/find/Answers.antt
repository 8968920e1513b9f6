-- `table::path::find` meets its contract: an entry that a lookup gives is in the table.
use native.Mathlib.Omega.{arith}
use mathlib.Core.Path.{◌∙◌}
use borrow.Author.Tests.{lt-ltb}
use lib.ListN.{length}
use Rattle.tree.specs.Table.{nodes_of}
use Rattle.tree.proofs.Laws.Accepted.{length-nodes_of}
use Rattle.table.proofs.path.find.Goals as goal

pub returns-in-Ok : goal.returns-in-Ok
returns-in-Ok c =
    let N = nodes_of c.args.table.now in
    let e = c.in-Ok.ensures in
    rw (← e.value) (c.entry.ensures ∙ rw (lt-ltb c.in-Ok.k (length N) (omega (arith, e.within, length-nodes_of c.args.table.now))))
