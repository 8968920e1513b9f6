-- `Stack::new` meets its contract: no word counts yet.
use mathlib.Core.Path.{refl}
use Rattle.table.proofs.Walking.{open_none}
use Rattle.table.proofs.stack.Stack.new.Goals as goal

pub returns : goal.returns
returns c = open_none _ 0 refl
