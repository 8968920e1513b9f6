-- `pass_units` meets its contract. The invariant of its loop: if the text is fit from where the loop is, so is the whole.
use Prim.Native.Nat.{◌+◌, ◌-◌, ◌≤◌}
use Rattle.table.specs.Inner.Blocks.{IsFit}
use Rattle.table.proofs.Chart.{Kinds}
use Rattle.table.proofs.passing.pass_units.Given as goal

abbrev pub invariant-loop-at : goal.invariant-loop-at
invariant-loop-at l = Kinds l.kinds l.trails × (IsFit l.table l.at → IsFit l.table l.from) × (l.at ≤ l.end + 1)

abbrev pub decreases-loop-at : goal.decreases-loop-at
decreases-loop-at l = l.stop - l.at
