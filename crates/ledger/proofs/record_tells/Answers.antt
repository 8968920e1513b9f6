-- `ledger::record_tells` meets its contract: the theorem is proved in proofs/Laws/RecordTells.
use Rattle.ledger.proofs.Laws.RecordTells.{record-tells}
use Rattle.ledger.proofs.record_tells.Goals as goal

pub returns : goal.returns
returns c = record-tells
