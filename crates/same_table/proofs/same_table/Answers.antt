-- `same_table::same_table` meets its contract: the theorem is proved in proofs/Laws/FixedByTree.
use Rattle.same_table.proofs.Laws.FixedByTree.{same-table}
use Rattle.same_table.proofs.same_table.Goals as goal

pub returns : goal.returns
returns c = same-table
