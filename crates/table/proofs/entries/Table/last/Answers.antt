-- `Table::last` meets its contract: whatever the entry's kind is, its last field is the record's.
use Rattle.table.proofs.Nodes.{opened, last-is}
use Rattle.table.proofs.entries.Table.last.Goals as goal

pub returns-clause-last : goal.returns-clause-last
returns-clause-last c =
    let h = c.self.invariant in
    rw (← c.self.view_is) (last-is (opened c.self.inside.bytes.now h.bytes h.opens) c.args.k (rw c.self.view_is c.requires) c.size_or_next.ensures)
