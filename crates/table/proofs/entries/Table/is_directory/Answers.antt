-- `Table::is_directory` meets its contract: an entry of an accepted table is a directory exactly if its kind is not 0.
use Rattle.table.proofs.Nodes.{opened, is-directory}
use Rattle.table.proofs.entries.Table.is_directory.Goals as goal

pub returns : goal.returns
returns c =
    let h = c.self.invariant in
    rw (← c.self.view_is) (is-directory (opened c.self.inside.bytes.now h.bytes h.opens) c.args.k (rw c.self.view_is c.requires))
