-- `same_table::no_influence_along` meets its contract: the theorem is proved in proofs/Laws/UnreadEdits.
use Rattle.same_table.proofs.Laws.UnreadEdits.{no-influence-along}
use Rattle.same_table.proofs.no_influence_along.Goals as goal

pub returns : goal.returns
returns c = no-influence-along
