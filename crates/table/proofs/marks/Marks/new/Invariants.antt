-- `Marks::new` meets its contract. The invariant of its loop: the marks are those of these texts.
use mathlib.Core.Path.{◌≡◌}
use Rattle.table.proofs.marks.Marks.new.Given as goal

abbrev pub invariant-loop-mark : goal.invariant-loop-mark
invariant-loop-mark l = (l.marks.table ≡ l.table) × (l.marks.base ≡ l.base)
