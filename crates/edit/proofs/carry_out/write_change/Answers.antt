-- `edit::carry_out::write_change` meets its contract: copy, table and zeros in the order of the definition.
use Rattle.edit.proofs.Carried.{all-written}
use Rattle.edit.proofs.carry_out.write_change.Goals as goal

pub returns : goal.returns
returns c = search all-written
