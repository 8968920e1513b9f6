-- `Stack::pop` meets its contract: the last word counts no more.
use mathlib.Core.Path.{sym, ◌∙◌}
use Rattle.table.proofs.Walking.{open_none, open-some}
use Rattle.table.proofs.stack.Stack.pop.Goals as goal

pub returns-then-self-eq0 : goal.returns-then-self-eq0
returns-then-self-eq0 c =
    let e = sym c.self.view_is ∙ open_none c.self.inside.words c.self.inside.depth c.if-self-eq0.true in
    record { value = rw e; rest = rw e }

pub returns : goal.returns
returns c =
    let e = sym c.self.view_is ∙ open-some c.self.inside.words c.self.inside.depth c.if-self-eq0.false in
    record { value = rw e; rest = rw e }
