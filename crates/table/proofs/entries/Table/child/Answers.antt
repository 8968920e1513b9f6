-- `Table::child` meets its contract: a name with a zero byte is that of no entry.
use mathlib.Core.Path.{sym, ◌∙◌}
use Rattle.table.proofs.Comparing.{child-none}
use Rattle.table.proofs.entries.Table.child.Goals as goal

pub returns-then-contains : goal.returns-then-contains
returns-then-contains c =
    let a = c.args in
    sym (child-none a.self.now a.d a.name.now (sym c.contains.ensures.value ∙ c.if-contains.true))

pub child_named-requires-clause-no_zero : goal.child_named-requires-clause-no_zero
child_named-requires-clause-no_zero c = sym c.contains.ensures.value ∙ c.if-contains.false
