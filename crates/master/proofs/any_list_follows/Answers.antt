-- `master::any_list_follows` meets its contract: the theorem is proved in proofs/Laws/AllListsFollow.
use Rattle.master.proofs.Laws.AllListsFollow.{any-list-follows}
use Rattle.master.proofs.any_list_follows.Goals as goal

pub returns : goal.returns
returns c = any-list-follows
