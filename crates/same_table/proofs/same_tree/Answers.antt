-- `same_table::same_tree` meets its contract: the theorem is proved in proofs/Laws/TablesTell.
use Rattle.same_table.proofs.Laws.TablesTell.{same-tree}
use Rattle.same_table.proofs.same_tree.Goals as goal

pub returns : goal.returns
returns c = same-tree
