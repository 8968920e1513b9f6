-- `Table::next` meets its contract: by the entry's kind.
use mathlib.Core.Path.{sym, ◌∙◌, ap}
use Rattle.tree.specs.Lookup.{next_of}
use Rattle.table.proofs.Nodes.{opened, file-is, directory-is}
use Rattle.table.proofs.entries.Table.next.Goals as goal

pub returns-then-table-k-eq0 : goal.returns-then-table-k-eq0
returns-then-table-k-eq0 c =
    let h = c.self.invariant in
    rw (← c.self.view_is) (sym (ap next_of (file-is (opened c.self.inside.bytes.now h.bytes h.opens) c.args.k (rw c.self.view_is c.requires) c.if-table-k-eq0.true)))

pub returns : goal.returns
returns c =
    let h = c.self.invariant in
    rw (← c.self.view_is) ((rw (← c.self.view_is) at c.last.ensures.stored) ∙ sym (ap next_of (directory-is (opened c.self.inside.bytes.now h.bytes h.opens) c.args.k (rw c.self.view_is c.requires) c.if-table-k-eq0.false)))
