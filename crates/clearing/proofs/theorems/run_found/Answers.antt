-- `clearing::run_found` meets its contract: the theorem is proved in proofs/Laws/RunFound.
use Rattle.clearing.proofs.Laws.RunFound.{run-found}
use Rattle.clearing.proofs.theorems.run_found.Goals as goal

pub returns : goal.returns
returns c = run-found
