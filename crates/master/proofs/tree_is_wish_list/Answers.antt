-- `master::tree_is_wish_list` meets its contract: the theorem is proved in proofs/Laws/WishTree.
use Rattle.master.proofs.Laws.WishTree.{tree-is-wish-list}
use Rattle.master.proofs.tree_is_wish_list.Goals as goal

pub returns : goal.returns
returns c = tree-is-wish-list
