-- `Entries::walk_refused` meets its contract. The invariant of its loop: what is left of the walk has the answer of the whole.
use Rattle.std.proofs.Common.{sym, ◌∙◌}
use Rattle.table.proofs.Walking.{sought-here, sought-turn, sought_end}
use Rattle.table.proofs.acceptance.Entries.walk_refused.Goals as goal

pub returns-then-is_err : goal.returns-then-is_err
returns-then-is_err c =
    sought-here c.loop-k.invariant.sought _ c.shut.ensures _ c.node_verdict.ensures.verdict c.loop-k-test.true (sym c.is_err.ensures.value ∙ c.if-is_err.true)

pub loop-k-preserved : goal.loop-k-preserved
loop-k-preserved c =
    let i = c.loop-k.invariant in
    record {
      sought = sought-turn i.sought _ c.shut.ensures _ c.node_verdict.ensures.verdict c.loop-k-test.true (sym c.is_err.ensures.value ∙ c.if-is_err.false) _ c.enter.ensures;
      table = rw c.node_verdict.ensures.same i.table;
      base = rw c.node_verdict.ensures.same i.base;
    }

pub returns : goal.returns
returns c = sought_end _ _ _ _ c.loop-k.invariant.sought c.loop-k-test.false
