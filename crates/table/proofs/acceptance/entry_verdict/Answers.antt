-- `table::acceptance::entry_verdict` meets its contract: each return by the tests that led there.
use borrow.Author.Tests.{lt-ltb, le-ltb}
use Rattle.tree.specs.Table.{entry_verdict}
use borrow.Author.Rules.{rules}
use Rattle.table.proofs.acceptance.entry_verdict.Goals as goal

pub returns-then-table-k : goal.returns-then-table-k
unfolding entry_verdict
returns-then-table-k c = simp (lt-ltb _ _ c.if-table-k.true)

pub returns-then-table-k-gt1 : goal.returns-then-table-k-gt1
unfolding entry_verdict
returns-then-table-k-gt1 c = search (le-ltb, lt-ltb)

pub returns : goal.returns
unfolding entry_verdict
returns c = search (le-ltb, rules)
