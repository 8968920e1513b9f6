-- `small_tables::theorems::none_missing` meets its contract: the theorem is proved in proofs/Laws/Accepted.
use Rattle.small_tables.proofs.Laws.Accepted.{none-missing}
use Rattle.small_tables.proofs.theorems.none_missing.Goals as goal

pub returns : goal.returns
returns c = none-missing
