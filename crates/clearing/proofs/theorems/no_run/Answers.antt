-- `clearing::no_run` meets its contract: the theorem is proved in proofs/Laws/NoRun.
use Rattle.clearing.proofs.Laws.NoRun.{no-run}
use Rattle.clearing.proofs.theorems.no_run.Goals as goal

pub returns : goal.returns
returns c = no-run
