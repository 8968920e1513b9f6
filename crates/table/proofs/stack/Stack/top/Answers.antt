-- `Stack::top` meets its contract: the last word.
use Rattle.table.proofs.Walking.{open_none, open-some}
use Rattle.table.proofs.stack.Stack.top.Goals as goal

pub returns-then-self-eq0 : goal.returns-then-self-eq0
returns-then-self-eq0 c = rw (← c.self.view_is, open_none c.self.inside.words c.self.inside.depth c.if-self-eq0.true)

pub returns : goal.returns
returns c = rw (← c.self.view_is, open-some c.self.inside.words c.self.inside.depth c.if-self-eq0.false)
