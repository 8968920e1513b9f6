-- `Table::offset` meets its contract: by the entry's kind.
use mathlib.Core.Path.{sym, ◌∙◌, ap}
use Rattle.table.specs.Inner.Fields.{offset_of}
use Rattle.table.proofs.Nodes.{opened, file-is, directory-is}
use Rattle.table.proofs.entries.Table.offset.Goals as goal

pub returns-then-table-k-ne0 : goal.returns-then-table-k-ne0
returns-then-table-k-ne0 c =
    let h = c.self.invariant in
    rw (← c.self.view_is) (sym (ap offset_of (directory-is (opened c.self.inside.bytes.now h.bytes h.opens) c.args.k (rw c.self.view_is c.requires) c.if-table-k-ne0.true)))

pub returns : goal.returns
returns c =
    let h = c.self.invariant in
    rw (← c.self.view_is) (c.offset_or_parent.ensures ∙ sym (ap offset_of (file-is (opened c.self.inside.bytes.now h.bytes h.opens) c.args.k (rw c.self.view_is c.requires) c.if-table-k-ne0.false)))
