-- `small_tables::numbers` meets its contract: the theorem is proved in proofs/Laws/Numbers.
use Rattle.small_tables.proofs.Laws.Numbers.{numbers}
use Rattle.small_tables.proofs.theorems.numbers.Goals as goal

pub returns : goal.returns
returns c = numbers
