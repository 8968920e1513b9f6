-- `table::path::take_step` meets its contract: each return by the tests that led there; there is room in the trail, since the step is from a directory.
use native.Mathlib.Omega.{arith}
use mathlib.Core.Path.{sym, ◌∙◌}
use Rattle.std.proofs.lemmas.Result.{err_from_is_err_and}
use Rattle.tree.specs.Table.{nodes_of}
use Rattle.tree.proofs.Laws.Accepted.{length-nodes_of}
use Rattle.table.proofs.Nodes.{held}
use Rattle.table.proofs.PathLaws.{room, step-file, step-stay, step_back_lem, step-into, back-some, back-none, trail-back, trail-into}
use Rattle.table.proofs.path.take_step.Goals as goal

pub is_directory-requires : goal.is_directory-requires
is_directory-requires c = omega (arith, c.requires.trail.inside, length-nodes_of c.args.table.now)

pub returns-then-not-is_directory-clause-onward : goal.returns-then-not-is_directory-clause-onward
returns-then-not-is_directory-clause-onward c =
    step-file (nodes_of c.args.table.now) c.args.trail.now c.args.k c.args.name.now (sym c.is_directory.ensures ∙ c.if-not-is_directory.true)

pub returns-then-is_staying-clause-onward : goal.returns-then-is_staying-clause-onward
returns-then-is_staying-clause-onward c =
    step-stay (nodes_of c.args.table.now) c.args.trail.now c.args.k c.args.name.now (sym c.is_directory.ensures ∙ c.if-not-is_directory.false) (sym c.is_staying.ensures ∙ c.if-is_staying.true)

pub returns-in-Some-clause-onward : goal.returns-in-Some-clause-onward
returns-in-Some-clause-onward c cs =
    step_back_lem (nodes_of c.args.table.now) c.args.trail.now c.args.k c.args.name.now (sym c.is_directory.ensures ∙ c.if-not-is_directory.false) (sym c.is_staying.ensures ∙ c.if-is_staying.false) (sym c.is_going_back.ensures ∙ c.if-is_going_back.true) cs
    ∙ rw (back-some c.args.trail.now c.pop.new.self c.in-Some.left c.in-Some.ensures.value c.pop.ensures.rest)

pub returns-in-Some-clause-trail : goal.returns-in-Some-clause-trail
returns-in-Some-clause-trail c =
    let e = back-some c.args.trail.now c.pop.new.self c.in-Some.left c.in-Some.ensures.value c.pop.ensures.rest in
    trail-back (nodes_of c.args.table.now) c.pop.new.self c.in-Some.left (rw e at c.requires.trail.behind)

pub returns-in-None-clause-onward : goal.returns-in-None-clause-onward
returns-in-None-clause-onward c cs =
    step_back_lem (nodes_of c.args.table.now) c.args.trail.now c.args.k c.args.name.now (sym c.is_directory.ensures ∙ c.if-not-is_directory.false) (sym c.is_staying.ensures ∙ c.if-is_staying.false) (sym c.is_going_back.ensures ∙ c.if-is_going_back.true) cs
    ∙ rw (back-none c.args.trail.now c.in-None.ensures.value)

pub child-requires : goal.child-requires
child-requires c = omega (arith, c.requires.trail.inside, length-nodes_of c.args.table.now)

pub returns-in_err-child-clause-onward : goal.returns-in_err-child-clause-onward
returns-in_err-child-clause-onward c cs =
    let p = err_from_is_err_and c.from_residual.result c.from_residual.ensures.1 in
    rw (p.1, p.2)
    (step-into (nodes_of c.args.table.now) c.args.trail.now c.args.k c.args.name.now (sym c.is_directory.ensures ∙ c.if-not-is_directory.false) (sym c.is_staying.ensures ∙ c.if-is_staying.false) (sym c.is_going_back.ensures ∙ c.if-is_going_back.false) cs
    ∙ rw (← c.in_err-child.ensures))

pub overflow_cast-k : goal.overflow_cast-k
overflow_cast-k c =
    omega (arith, c.requires.trail.inside, length-nodes_of c.args.table.now, c.requires.held.inside.small)

pub push-requires : goal.push-requires
push-requires c =
    let a = held c.requires.held in
    room (nodes_of c.args.table.now) c.args.trail.now c.args.k a.well a.depth c.requires.trail (sym c.is_directory.ensures ∙ c.if-not-is_directory.false)

pub returns-clause-onward : goal.returns-clause-onward
returns-clause-onward c cs =
    rw c.push.ensures
    (step-into (nodes_of c.args.table.now) c.args.trail.now c.args.k c.args.name.now (sym c.is_directory.ensures ∙ c.if-not-is_directory.false) (sym c.is_staying.ensures ∙ c.if-is_staying.false) (sym c.is_going_back.ensures ∙ c.if-is_going_back.false) cs
    ∙ rw (← c.in_ok-child.ensures))

pub returns-clause-trail : goal.returns-clause-trail
returns-clause-trail c =
    let a = held c.requires.held in
    rw c.push.ensures (trail-into (nodes_of c.args.table.now) c.args.trail.now c.args.k c.args.name.now c.in_ok-child.child a.well c.requires.trail (sym c.in_ok-child.ensures))
