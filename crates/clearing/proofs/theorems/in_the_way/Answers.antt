-- `clearing::in_the_way` meets its contract: the theorem is proved in proofs/Laws/InTheWay.
use Rattle.clearing.proofs.Laws.InTheWay.{in-the-way}
use Rattle.clearing.proofs.theorems.in_the_way.Goals as goal

pub returns : goal.returns
returns c = in-the-way
