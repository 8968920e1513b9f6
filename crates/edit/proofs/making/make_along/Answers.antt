-- `make_along` meets its contract: each step leads on to what the whole makes, and what there is no room for there is none for at the end.
use Rattle.std.proofs.Common.{refl, ◌∙◌}
use Rattle.std.proofs.lemmas.Result.{err_from_is_err_and}
use Rattle.edit.proofs.Turns.{making-start, making-can, making-stops, making-turn, making-end}
use Rattle.edit.proofs.making.make_along.Goals as goal

pub loop-name-init : goal.loop-name-init
loop-name-init c =
    rw (c.into_iter-name-iterator.ensures.into_iter_gives, c.new-name-items.ensures)
    (tt, tt, making-start c.args.table.now c.args.start _ c.requires.start_inside c.requires.untroubled, refl)

pub step-requires : goal.step-requires
step-requires c =
    let i = rw c.in-Some.ensures.steps at c.loop-name.invariant in
    making-can i.2

pub returns-in_err-entry-clause-reaches : goal.returns-in_err-entry-clause-reaches
returns-in_err-entry-clause-reaches c =
    let i = rw c.in-Some.ensures.steps at c.loop-name.invariant in
    let p = err_from_is_err_and c.from_residual.result c.from_residual.ensures.1 in
    let s = making-stops i.2 c.step.new.table c.step.ensures.same_words _ _ c.step.ensures.reaches c.in_err-entry.was in
    rw (p.1, p.2, c.step.ensures.same_words, i.2.lent) s

pub loop-name-preserved : goal.loop-name-preserved
loop-name-preserved c =
    let i = rw c.in-Some.ensures.steps at c.loop-name.invariant in
    (tt, tt, making-turn i.2 c.step.new.table c.step.ensures.same_words _ c.step.ensures.same_length (rw c.in_ok-entry.was at c.step.ensures.reaches), c.step.ensures.same_reference ∙ i.3)

pub returns-clause-reaches : goal.returns-clause-reaches
returns-clause-reaches c =
    let i = rw c.in-None.ensures.steps.0 at c.loop-name.invariant in
    making-end _ _ _ _ _ _ i.2
