-- `sheet::theorems::checked_whole` meets its contract: the theorem is proved in proofs/Laws/CheckedWhole.
use Rattle.sheet.proofs.Laws.CheckedWhole.{checked-whole}
use Rattle.sheet.proofs.theorems.checked_whole.Goals as goal

pub returns : goal.returns
returns c = checked-whole
