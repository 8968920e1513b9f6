-- `ledger::maximum_kept` meets its contract: the theorem is proved in proofs/Laws/MaximumKept.
use Rattle.ledger.proofs.Laws.MaximumKept.{maximum-kept}
use Rattle.ledger.proofs.maximum_kept.Goals as goal

pub returns : goal.returns
returns c = maximum-kept
