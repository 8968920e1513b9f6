-- `small_tables::theorems::each_opens` meets its contract: the theorem is proved in proofs/Laws/Opens.
use Rattle.small_tables.proofs.Laws.Opens.{each-opens}
use Rattle.small_tables.proofs.theorems.each_opens.Goals as goal

pub returns : goal.returns
returns c = each-opens
