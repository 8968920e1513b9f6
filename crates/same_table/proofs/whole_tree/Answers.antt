-- `same_table::whole_tree` meets its contract: the theorem is proved in proofs/Laws/WholeTree.
use Rattle.same_table.proofs.Laws.WholeTree.{whole-tree}
use Rattle.same_table.proofs.whole_tree.Goals as goal

pub returns : goal.returns
returns c = whole-tree
