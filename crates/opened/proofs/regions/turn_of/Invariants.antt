-- `regions::turn_of` meets its contract: the turn stays between the first entry and the last. Assumes nothing.
use Rattle.std.proofs.Common.{◌-◌, ◌≤◌}
use Rattle.tree.specs.Table.{count}
use Rattle.opened.proofs.regions.turn_of.Given as goal

abbrev pub invariant-loop-low : goal.invariant-loop-low
invariant-loop-low l = (1 ≤ l.low) × (l.low ≤ l.high) × (l.high ≤ count l.table)

abbrev pub decreases-loop-low : goal.decreases-loop-low
decreases-loop-low l = l.high - l.low
