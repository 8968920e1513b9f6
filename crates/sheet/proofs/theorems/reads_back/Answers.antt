-- `sheet::theorems::reads_back` meets its contract: the theorem is proved in proofs/Laws/ReadsBack.
use Rattle.sheet.proofs.Laws.ReadsBack.{reads-back}
use Rattle.sheet.proofs.theorems.reads_back.Goals as goal

pub returns : goal.returns
returns c = reads-back
