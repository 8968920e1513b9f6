-- `small_tables::theorems::each_in_its_place` meets its contract: the theorem is proved in proofs/Laws/Places.
use Rattle.small_tables.proofs.Laws.Places.{each-in-its-place}
use Rattle.small_tables.proofs.theorems.each_in_its_place.Goals as goal

pub returns : goal.returns
returns c = each-in-its-place
