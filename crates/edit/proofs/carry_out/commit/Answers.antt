-- `edit::carry_out::commit` meets its contract: the table and the zeros behind it are put at once, then the size.
use Rattle.edit.proofs.Puts.{committed}
use Rattle.edit.proofs.carry_out.commit.Goals as goal

pub returns : goal.returns
returns c = search committed
