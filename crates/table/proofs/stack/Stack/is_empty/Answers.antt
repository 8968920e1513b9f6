-- `Stack::is_empty` meets its contract.
use Rattle.table.proofs.Walking.{length-open}
use Rattle.table.proofs.stack.Stack.is_empty.Goals as goal

pub returns : goal.returns
returns c = rw (← c.self.view_is, length-open c.self.inside.words c.self.inside.depth)
