-- `Entries::is_unended` meets its contract: each return by the tests that led there.
use borrow.Author.Tests.{le-ltb, lt-ltb}
use Rattle.tree.specs.Table.{is_unended}
use Rattle.table.proofs.acceptance.Entries.is_unended.Goals as goal

pub returns-then-self : goal.returns-then-self
unfolding is_unended
returns-then-self c = simp (lt-ltb _ _ c.if-self.true)

pub returns-else-self : goal.returns-else-self
unfolding is_unended
returns-else-self c = simp (le-ltb _ _ c.if-self.false)
