-- `edit::trouble::trouble` meets its contract: each step leaves what the whole has.
use Rattle.std.proofs.Common.{arith, sym, ◌∙◌}
use Rattle.std.proofs.lemmas.Result.{err_from_is_err_and}
use Rattle.edit.proofs.Counted.{components-few}
use Rattle.edit.proofs.WalkLaws.{walk-starts, walk-stops, walk-goes-on, walk_ends}
use Rattle.edit.proofs.trouble.trouble.Goals as goal

pub loop-name-init : goal.loop-name-init
loop-name-init c =
    rw (c.into_iter-name-iterator.ensures.into_iter_gives, c.new-name-items.ensures)
    (tt, tt, walk-starts _ _ c.args.path.now _ (sym c.new.ensures ∙ c.in_ok-walk.was))

pub step-requires : goal.step-requires
step-requires c =
    let i = rw c.in-Some.ensures.steps at c.loop-name.invariant in
    omega (arith, i.2.levels, components-few c.args.path.now)

pub returns-in_err-walk-2 : goal.returns-in_err-walk-2
returns-in_err-walk-2 c =
    let i = rw c.in-Some.ensures.steps at c.loop-name.invariant in
    let e = c.from_residual-in_err-walk-2 in
    let p = err_from_is_err_and e.result e.ensures.1 in
    rw (p.1, p.2) (walk-stops _ _ _ _ _ i.2 _ (sym c.in_err-walk-2.was ∙ c.step.ensures))

pub loop-name-preserved : goal.loop-name-preserved
loop-name-preserved c =
    let i = rw c.in-Some.ensures.steps at c.loop-name.invariant in
    (tt, tt, walk-goes-on _ _ _ _ _ i.2 _ (sym c.in_ok-walk-2.was ∙ c.step.ensures))

pub returns : goal.returns
returns c =
    let i = rw c.in-None.ensures.steps.0 at c.loop-name.invariant in
    walk_ends _ _ _ i.2 _ c.end.ensures
