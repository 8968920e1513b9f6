-- `small_tables::theorems::read_back` meets its contract: the theorem is proved in proofs/Laws/Accepted.
use Rattle.small_tables.proofs.Laws.Accepted.{read-back}
use Rattle.small_tables.proofs.theorems.read_back.Goals as goal

pub returns : goal.returns
returns c = read-back
