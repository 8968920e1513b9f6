-- `Entries::walk` meets its contract. The invariant of its loop: what is left of the walk has the answer of the whole.
use mathlib.Core.Path.{refl}
use Rattle.std.proofs.lemmas.Result.{err_from_is_err_and}
use Rattle.table.proofs.Walking.{walked_stop, walked-turn, walked_end}
use Rattle.table.proofs.acceptance.Entries.walk.Goals as goal

pub returns-in_err-node_verdict : goal.returns-in_err-node_verdict
returns-in_err-node_verdict c =
    let p = err_from_is_err_and c.from_residual.result c.from_residual.ensures.1 in
    rw (p.1, p.2) (walked_stop c.loop-k.invariant.walked _ c.shut.ensures _ c.in_err-node_verdict.ensures.verdict c.loop-k-test.true refl)

pub loop-k-preserved : goal.loop-k-preserved
loop-k-preserved c =
    let i = c.loop-k.invariant in
    record {
      walked = walked-turn i.walked _ c.shut.ensures _ c.in_ok-node_verdict.ensures.verdict c.loop-k-test.true refl _ c.enter.ensures;
      table = rw c.node_verdict.ensures.same i.table;
      base = rw c.node_verdict.ensures.same i.base;
    }

pub returns : goal.returns
returns c = walked_end _ _ _ _ c.loop-k.invariant.walked c.loop-k-test.false
