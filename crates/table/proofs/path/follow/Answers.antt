-- `table::path::follow` meets its contract. The invariant of its loop: what is left of the path leads from here, with the trail kept, to where the whole leads from the start.
use native.Mathlib.Omega.{arith}
use mathlib.Core.Path.{refl, sym, ◌∙◌}
use Rattle.tree.specs.Table.{nodes_of}
use Rattle.tree.proofs.Laws.Accepted.{length-nodes_of}
use Rattle.table.proofs.PathLaws.{trail-start, follow-done}
use Rattle.table.proofs.path.follow.Goals as goal

pub loop-name-init : goal.loop-name-init
loop-name-init c =
    let T = c.args.table.now in
    rw (c.into_iter-name-iterator.ensures.into_iter_gives, c.new-name-items.ensures, c.new-trail.ensures)
    (tt, tt, trail-start (nodes_of T) c.args.start (omega (arith, c.requires.within, length-nodes_of T)), refl)

pub overflow_cast-result : goal.overflow_cast-result
overflow_cast-result c =
    omega (arith, c.loop-name.invariant.2.inside, length-nodes_of c.args.table.now, c.requires.held.inside.small)

pub returns-clause-value : goal.returns-clause-value
returns-clause-value c =
    let i = rw c.in-None.ensures.steps.0 at c.loop-name.invariant in
    sym (i.3 ∙ follow-done (nodes_of c.args.table.now) c.loop-name.trail c.loop-name.k)

pub returns-clause-within : goal.returns-clause-within
returns-clause-within c = omega (arith, c.loop-name.invariant.2.inside, length-nodes_of c.args.table.now)
