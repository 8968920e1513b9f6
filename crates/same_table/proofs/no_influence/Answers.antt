-- `same_table::no_influence` meets its contract: the theorem is proved in proofs/Laws/UnreadEdits.
use Rattle.same_table.proofs.Laws.UnreadEdits.{no-influence}
use Rattle.same_table.proofs.no_influence.Goals as goal

pub returns : goal.returns
returns c = no-influence
