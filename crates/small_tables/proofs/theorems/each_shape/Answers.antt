-- `small_tables::each_shape` meets its contract: the theorem is proved in proofs/Laws/Shapes.
use Rattle.small_tables.proofs.theorems.each_shape.Goals as goal
use Rattle.small_tables.proofs.Laws.Shapes.{each-shape}

pub returns : goal.returns
returns c = each-shape
