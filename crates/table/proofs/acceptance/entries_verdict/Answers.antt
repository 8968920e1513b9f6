-- `table::acceptance::entries_verdict` meets its contract. The invariant of its loop: what is left has the answer of the whole.
use mathlib.Core.Path.{refl, sym, ◌∙◌}
use Rattle.std.proofs.lemmas.Result.{err_from_is_err_and}
use Rattle.tree.proofs.Laws.Steps.{entries-stop, entries-go, entries-end}
use Rattle.table.proofs.acceptance.entries_verdict.Goals as goal

pub returns-in_err-entry_verdict : goal.returns-in_err-entry_verdict
returns-in_err-entry_verdict c =
    let p = err_from_is_err_and c.from_residual.result c.from_residual.ensures.1 in
    rw (p.1, p.2) (sym (c.loop-k.invariant ∙ entries-stop _ _ _ _ c.loop-k-test.true c.in_err-entry_verdict.ensures refl))

pub loop-k-preserved : goal.loop-k-preserved
loop-k-preserved c = c.loop-k.invariant ∙ entries-go _ _ _ _ c.loop-k-test.true c.in_ok-entry_verdict.ensures refl

pub returns : goal.returns
returns c = sym (c.loop-k.invariant ∙ entries-end _ _ _ c.loop-k-test.false)
