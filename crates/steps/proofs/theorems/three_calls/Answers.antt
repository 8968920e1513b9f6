-- `steps::three_calls` meets its contract: the theorem is proved in proofs/Laws/ThreeCalls.
use Rattle.steps.proofs.Laws.ThreeCalls.{three-calls}
use Rattle.steps.proofs.theorems.three_calls.Goals as goal

pub returns : goal.returns
returns c = three-calls
