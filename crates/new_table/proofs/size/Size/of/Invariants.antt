-- `new_table::size::Size::of`: what is measured and what is left make the whole.
use Rattle.std.proofs.Common.{length, ◌-◌}
use Rattle.new_table.proofs.Measuring.{Measured}
use Rattle.new_table.proofs.size.Size.of.Given as goal

abbrev pub invariant-loop-at : goal.invariant-loop-at
invariant-loop-at l = Measured l.paths l.before l.at l.entries l.texts

abbrev pub decreases-loop-at : goal.decreases-loop-at
decreases-loop-at l = length l.paths - l.at
