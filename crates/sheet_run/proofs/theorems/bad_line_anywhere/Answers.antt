-- `sheet_run::bad_line_anywhere` meets its contract: the theorem is proved in proofs/Laws/BadLineAnywhere.
use Rattle.sheet_run.proofs.Laws.BadLineAnywhere.{bad-line-anywhere}
use Rattle.sheet_run.proofs.theorems.bad_line_anywhere.Goals as goal

pub returns : goal.returns
returns c = bad-line-anywhere
