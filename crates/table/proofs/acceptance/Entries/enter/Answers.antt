-- `Entries::enter` meets its contract: a directory's next goes on top of the others, and there is room for it since it is at most 64 deep.
use native.Mathlib.Omega.{arith}
use Rattle.table.proofs.Walking.{node-file, node-directory, dirs_with-room}
use Rattle.table.proofs.acceptance.Entries.enter.Goals as goal

pub push-requires : goal.push-requires
push-requires c =
    let a = c.args in
    omega (arith, dirs_with-room a.self.now.table.now a.self.now.count a.k a.dirs.now c.if-self-k-ne0.true c.requires.passed)

pub returns-then-self-k-ne0 : goal.returns-then-self-k-ne0
returns-then-self-k-ne0 c =
    let a = c.args in
    rw (node-directory a.self.now.table.now a.self.now.count a.k c.if-self-k-ne0.true, ← c.size_or_next.ensures) c.push.ensures

pub returns-else-self-k-ne0 : goal.returns-else-self-k-ne0
returns-else-self-k-ne0 c =
    let a = c.args in
    rw (node-file a.self.now.table.now a.self.now.count a.k c.if-self-k-ne0.false)
