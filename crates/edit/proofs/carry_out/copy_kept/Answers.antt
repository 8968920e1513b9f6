-- `edit::carry_out::copy_kept` meets its contract: no byte put changes nothing, and otherwise it is the copy.
use Rattle.edit.proofs.Puts.{copied_none}
use Rattle.edit.proofs.carry_out.copy_kept.Goals as goal

pub returns-then-n-eq0 : goal.returns-then-n-eq0
returns-then-n-eq0 c = search copied_none
