-- `same_table::second_rewrite` meets its contract: the theorem is proved in proofs/Laws/SecondRewrite.
use Rattle.same_table.proofs.Laws.SecondRewrite.{second-rewrite}
use Rattle.same_table.proofs.second_rewrite.Goals as goal

pub returns : goal.returns
returns c = second-rewrite
