-- `ledger::unnamed_stays` meets its contract: the theorem is proved in proofs/Laws/AfterAnyList.
use Rattle.ledger.proofs.Laws.AfterAnyList.{unnamed-stays}
use Rattle.ledger.proofs.unnamed_stays.Goals as goal

pub returns : goal.returns
returns c = unnamed-stays
