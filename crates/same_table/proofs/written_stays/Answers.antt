-- `same_table::written_stays` meets its contract: the theorem is proved in proofs/Laws/SecondRewrite.
use Rattle.same_table.proofs.Laws.SecondRewrite.{written-stays}
use Rattle.same_table.proofs.written_stays.Goals as goal

pub returns : goal.returns
returns c = written-stays
