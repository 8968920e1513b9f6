-- `Shift::parent` meets its contract: by the test on the parent.
use native.Mathlib.Numerals.{add-one}
use borrow.Author.Tests.{le-leb, lt-leb}
use Rattle.tree.specs.Insert.{number_after_insert}
use Rattle.table_writing.proofs.raising.Shift.parent.Goals as goal

pub returns-then-self-parent : goal.returns-then-self-parent
unfolding number_after_insert
returns-then-self-parent c = simp (le-leb _ _ c.if-self-parent.true, add-one)

pub returns-else-self-parent : goal.returns-else-self-parent
unfolding number_after_insert
returns-else-self-parent c = simp (lt-leb _ _ c.if-self-parent.false)
