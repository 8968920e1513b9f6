-- `ledger::fill_reads` meets its contract: the theorem is proved in proofs/Laws/FillReads.
use Rattle.ledger.proofs.Laws.FillReads.{fill-reads}
use Rattle.ledger.proofs.fill_reads.Goals as goal

pub returns : goal.returns
returns c = fill-reads
