-- `new_table::path::part_start`: none of the bytes from `start` up to the end is the separator.
use Rattle.std.proofs.Common.{◌≡◌, ℕ, ◌-◌, ◌≤◌, ◌<◌, get_or}
use Rattle.new_table.proofs.path.part_start.Given as goal

abbrev pub invariant-loop-start : goal.invariant-loop-start
invariant-loop-start l = (l.from ≤ l.start) × (l.start ≤ l.end) × ((i : ℕ) → l.start ≤ i → i < l.end → get_or l.bytes i 0 ≡ l.separator → ⊥)

abbrev pub decreases-loop-start : goal.decreases-loop-start
decreases-loop-start l = l.start - l.from
