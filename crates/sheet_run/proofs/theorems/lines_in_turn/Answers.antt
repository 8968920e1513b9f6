-- `sheet_run::lines_in_turn` meets its contract: the theorem is proved in proofs/Laws/LinesInTurn.
use Rattle.sheet_run.proofs.Laws.LinesInTurn.{lines-in-turn}
use Rattle.sheet_run.proofs.theorems.lines_in_turn.Goals as goal

pub returns : goal.returns
returns c = lines-in-turn
