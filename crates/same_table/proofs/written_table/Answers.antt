-- `same_table::written_table` meets its contract: the theorem is proved in proofs/Laws/WrittenTable.
use Rattle.same_table.proofs.Laws.WrittenTable.{written-table}
use Rattle.same_table.proofs.written_table.Goals as goal

pub returns : goal.returns
returns c = written-table
