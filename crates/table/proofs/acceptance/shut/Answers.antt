-- `table::acceptance::shut` meets its contract. The invariant of its loop: those that are left shut to the same as all.
use native.Mathlib.Omega.{arith}
use mathlib.Core.Path.{sym, ◌∙◌}
use borrow.Author.Tests.{eqb-true}
use Rattle.table.proofs.Walking.{dirs_open_at-keep, dirs_open_at-drop, shut_none}
use Rattle.table.proofs.acceptance.shut.Goals as goal

pub returns-then-k-top : goal.returns-then-k-top
returns-then-k-top c = sym (c.loop-dirs.invariant ∙ dirs_open_at-keep c.loop-dirs.dirs c.args.k (omega (arith, c.top.ensures, c.if-k-top.true)))

pub loop-dirs-preserved : goal.loop-dirs-preserved
loop-dirs-preserved c =
    rw c.pop.ensures.rest (c.loop-dirs.invariant ∙ dirs_open_at-drop c.loop-dirs.dirs c.args.k (omega (arith, c.top.ensures, c.if-k-top.false)))

pub returns : goal.returns
returns c =
    sym (c.loop-dirs.invariant ∙ shut_none c.loop-dirs.dirs c.args.k (eqb-true _ _ (sym c.is_empty.ensures ∙ c.loop-dirs-test.false)))
