-- `edit::carry_out::zero_lost` meets its contract: no byte put changes nothing, and otherwise it is the fill.
use Rattle.edit.proofs.Puts.{filled_none}
use Rattle.edit.proofs.carry_out.zero_lost.Goals as goal

pub returns-then-n-eq0 : goal.returns-then-n-eq0
returns-then-n-eq0 c = search filled_none
