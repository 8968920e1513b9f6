-- `master::new_master_opens` meets its contract: the theorem is proved in proofs/Laws/Opens.
use Rattle.master.proofs.Laws.Opens.{new-master-opens}
use Rattle.master.proofs.new_master_opens.Goals as goal

pub returns : goal.returns
returns c = new-master-opens
