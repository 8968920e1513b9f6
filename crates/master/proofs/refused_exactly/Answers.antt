-- `master::refused_exactly` meets its contract: the theorem is proved in proofs/Laws/AllListsFollow.
use Rattle.master.proofs.Laws.AllListsFollow.{refused-exactly}
use Rattle.master.proofs.refused_exactly.Goals as goal

pub returns : goal.returns
returns c = refused-exactly
