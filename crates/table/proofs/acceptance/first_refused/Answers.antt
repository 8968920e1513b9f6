-- `table::acceptance::first_refused` meets its contract. The invariant of its loop: what is left has the answer of the whole.
use Rattle.std.proofs.Common.{sym, ◌∙◌, arith}
use Rattle.tree.proofs.Laws.FaultSteps.{refused-here, refused-later, refused_none}
use Rattle.table.proofs.acceptance.first_refused.Goals as goal

pub returns-then-is_err : goal.returns-then-is_err
returns-then-is_err c =
    sym (c.loop-k.invariant ∙ refused-here _ c.loop-k.k _ _ (omega arith) _ c.entry_verdict.ensures c.loop-k-test.true (sym c.is_err.ensures.value ∙ c.if-is_err.true))

pub loop-k-preserved : goal.loop-k-preserved
loop-k-preserved c =
    c.loop-k.invariant ∙ refused-later _ c.loop-k.k _ _ (omega arith) _ c.entry_verdict.ensures c.loop-k-test.true (sym c.is_err.ensures.value ∙ c.if-is_err.false)

pub returns : goal.returns
returns c = sym (c.loop-k.invariant ∙ refused_none _ _ _ c.loop-k-test.false)
