-- `clearing::none_tried` meets its contract: the theorem is proved in proofs/Laws/NoneTried.
use Rattle.clearing.proofs.Laws.NoneTried.{none-tried}
use Rattle.clearing.proofs.theorems.none_tried.Goals as goal

pub returns : goal.returns
returns c = none-tried
