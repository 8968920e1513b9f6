-- `clearing::floor_of_all` meets its contract: the theorem is proved in proofs/Laws/FloorOfAll.
use Rattle.clearing.proofs.Laws.FloorOfAll.{floor-of-all}
use Rattle.clearing.proofs.theorems.floor_of_all.Goals as goal

pub returns : goal.returns
returns c = floor-of-all
