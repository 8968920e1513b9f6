-- `Entries::name_verdict` meets its contract: the name's text starts at its offset behind the entries.
use native.Mathlib.Omega.{arith}
use mathlib.Core.Path.{◌≡◌}
use Prim.Native.Nat.{◌-◌, ◌*◌}
use borrow.Author.Tests.{le-leb, lt-leb}
use lib.ListN.{length}
use Rattle.tree.specs.Table.{name_offset, name_at, name_verdict}
use Rattle.table.proofs.acceptance.Entries.name_verdict.Goals as goal

pub returns-then-self-offset-clause-verdict : goal.returns-then-self-offset-clause-verdict
unfolding name_verdict
returns-then-self-offset-clause-verdict c =
    let T = c.args.self.now.table.now in
    rw (le-leb (length T - 12 * c.args.self.now.count) (name_offset T c.args.k) (omega arith))

pub returns-then-is_fit-clause-verdict : goal.returns-then-is_fit-clause-verdict
unfolding name_verdict name_at
returns-then-is_fit-clause-verdict c =
    let T = c.args.self.now.table.now in
    let o : c.name_offset-offset.result ≡ name_offset T c.args.k = c.name_offset-offset.ensures.value in
    rw (lt-leb (length T - 12 * c.args.self.now.count) (name_offset T c.args.k) (omega arith)) (rw o at c.clean_verdict.ensures)

pub returns-clause-verdict : goal.returns-clause-verdict
unfolding name_verdict name_at
returns-clause-verdict c =
    let T = c.args.self.now.table.now in
    let o : c.name_offset-offset.result ≡ name_offset T c.args.k = c.name_offset-offset.ensures.value in
    rw (lt-leb (length T - 12 * c.args.self.now.count) (name_offset T c.args.k) (omega arith)) (rw o at c.text_verdict.ensures)
