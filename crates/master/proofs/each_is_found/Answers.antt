-- `master::each_is_found` meets its contract: the theorem is proved in proofs/Laws/WishTree.
use Rattle.master.proofs.Laws.WishTree.{each-is-found}
use Rattle.master.proofs.each_is_found.Goals as goal

pub returns : goal.returns
returns c = each-is-found
