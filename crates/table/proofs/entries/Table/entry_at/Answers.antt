-- `Table::entry_at` meets its contract: by the entry's kind.
use mathlib.Core.Path.{◌≡◌}
use Rattle.tree.specs.Table.{offset_or_parent, size_or_next}
use Rattle.table.proofs.Nodes.{opened, file-is, directory-is}
use Rattle.table.proofs.entries.Table.entry_at.Goals as goal

pub returns-then-table-k-eq0 : goal.returns-then-table-k-eq0
returns-then-table-k-eq0 c =
    let h = c.self.invariant in
    let T = c.self.inside.bytes.now in
    let f = file-is (opened T h.bytes h.opens) c.args.k (rw c.self.view_is c.requires) c.if-table-k-eq0.true in
    let o : c.offset.result ≡ offset_or_parent T c.args.k = rw (← c.self.view_is, f) at c.offset.ensures in
    let l : c.last-last.result ≡ size_or_next T c.args.k = rw (← c.self.view_is) at c.last-last.ensures.stored in
    rw (← c.self.view_is, f, o, l)

pub returns-else-table-k-eq0 : goal.returns-else-table-k-eq0
returns-else-table-k-eq0 c =
    let h = c.self.invariant in
    let T = c.self.inside.bytes.now in
    let f = directory-is (opened T h.bytes h.opens) c.args.k (rw c.self.view_is c.requires) c.if-table-k-eq0.false in
    let l : c.last-last.result ≡ size_or_next T c.args.k = rw (← c.self.view_is) at c.last-last.ensures.stored in
    rw (← c.self.view_is, f, l) (cc)
