-- `small_tables::each_once` meets its contract: the theorem is proved in proofs/Laws/Order.
use Rattle.small_tables.proofs.theorems.each_once.Goals as goal
use Rattle.small_tables.proofs.Laws.Order.{each-once}

pub returns : goal.returns
returns c = each-once
