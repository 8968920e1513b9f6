-- `ledger::any_list` meets its contract: the theorem is proved in proofs/Laws/AfterAnyList.
use Rattle.ledger.proofs.Laws.AfterAnyList.{ledger-holds}
use Rattle.ledger.proofs.any_list.Goals as goal

pub returns : goal.returns
returns c = ledger-holds
