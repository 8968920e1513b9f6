-- `steps::cuts_kept` meets its contract: the theorem is proved in proofs/Laws/CutsKept.
use Rattle.steps.proofs.Laws.CutsKept.{cuts-kept}
use Rattle.steps.proofs.theorems.cuts_kept.Goals as goal

pub returns : goal.returns
returns c = cuts-kept
