-- `small_tables::shape::parent` meets its contract: the search goes down one entry at a time, as `parent_below` does.
use Rattle.std.proofs.Common.{◌≡◌, ◌-◌, suc, refl, sym, ◌∙◌, arith}
use Rattle.tree.specs.Table.{parent_below, parent_of}
use Rattle.small_tables.proofs.Laws.Entries.{parent-there, parent-further}
use Rattle.small_tables.proofs.shape.parent.Goals as goal

pub loop-p-init : goal.loop-p-init
unfolding parent_of
loop-p-init c = refl

pub returns-then-k-next : goal.returns-then-k-next
returns-then-k-next c =
    let p = c.loop-p.p in
    let e : p ≡ suc (p - 1) = omega (arith, c.loop-p-test.true) in
    sym ((rw e at c.loop-p.invariant) ∙ parent-there c.args.shape.now (p - 1) c.args.k (omega arith) (rw c.next.ensures at c.if-k-next.true))

pub loop-p-preserved : goal.loop-p-preserved
loop-p-preserved c =
    let p = c.loop-p.p in
    let e : p ≡ suc (p - 1) = omega (arith, c.loop-p-test.true) in
    (rw e at c.loop-p.invariant) ∙ parent-further c.args.shape.now (p - 1) c.args.k (omega arith) (rw c.next.ensures at c.if-k-next.false)

pub returns : goal.returns
unfolding parent_below
returns c =
    let e : c.loop-p.p ≡ 0 = omega (arith, c.loop-p-test.false) in
    sym (rw e at c.loop-p.invariant)
