-- `sheet_run::in_parts` meets its contract: the theorem is proved in proofs/Laws/InParts.
use Rattle.sheet_run.proofs.Laws.InParts.{in-parts}
use Rattle.sheet_run.proofs.theorems.in_parts.Goals as goal

pub returns : goal.returns
returns c = in-parts
