-- `Stack::len` meets its contract.
use mathlib.Core.Path.{sym}
use Rattle.table.proofs.Walking.{length-open}
use Rattle.table.proofs.stack.Stack.len.Goals as goal

pub returns : goal.returns
returns c = rw (← c.self.view_is) (sym (length-open c.self.inside.words c.self.inside.depth))
