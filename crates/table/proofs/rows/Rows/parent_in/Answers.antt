-- `Rows::parent_in` meets its contract. The invariant of its loop: no directory past p encloses the entry.
use native.Mathlib.Omega.{arith}
use mathlib.Core.Path.{refl, sym, ◌∙◌}
use Rattle.tree.specs.Table.{nodes_of}
use Rattle.tree.proofs.Laws.Nesting.{parent-before}
use Rattle.table.proofs.Nodes.{parent-whole, parent-none}
use Rattle.table.proofs.RowLaws.{climb-start, climb-found, climb-turn, climb-end}
use Rattle.table.proofs.rows.Rows.parent_in.Goals as goal

pub returns-then-k-eq0-clause-parent : goal.returns-then-k-eq0-clause-parent
returns-then-k-eq0-clause-parent c =
    let N = nodes_of c.args.self.now.table.now in
    sym (parent-whole N c.args.k ∙ parent-none N c.args.k c.args.k c.if-k-eq0.true)

pub loop-p-init : goal.loop-p-init
loop-p-init c = (omega arith, climb-start (nodes_of c.args.self.now.table.now) c.args.k _ (omega arith) refl)

pub returns-then-k-next-clause-parent : goal.returns-then-k-next-clause-parent
returns-then-k-next-clause-parent c = sym (c.loop-p.invariant.1 ∙ climb-found (nodes_of c.args.self.now.table.now) c.args.k c.loop-p.p (omega arith))

pub loop-p-smaller : goal.loop-p-smaller
loop-p-smaller c =
    let e = c.requires.parents_in.at c.loop-p.p (omega arith) in
    omega (arith, parent-before (nodes_of c.args.self.now.table.now) c.loop-p.p (omega arith))

pub loop-p-preserved : goal.loop-p-preserved
loop-p-preserved c =
    let e = c.requires.parents_in.at c.loop-p.p (omega arith) in
    (omega (arith, parent-before (nodes_of c.args.self.now.table.now) c.loop-p.p (omega arith)), rw e (c.loop-p.invariant.1 ∙ climb-turn (nodes_of c.args.self.now.table.now) c.args.k c.loop-p.p (omega arith) (omega arith) (omega arith)))

pub returns-clause-parent : goal.returns-clause-parent
returns-clause-parent c = sym (c.loop-p.invariant.1 ∙ climb-end (nodes_of c.args.self.now.table.now) c.args.k c.loop-p.p (omega arith))
