-- `table_writing::patch::patch_behind` meets its contract: once all records are moved, those from k on are the new ones, and those before it the moved ones.
use Prim.Native.Nat.{◌≤◌, ◌+◌, ◌-◌}
use Rattle.table_writing.proofs.Behind.{Raised}
use Rattle.table_writing.proofs.patch.patch_behind.Given as goal

abbrev pub invariant-loop-k : goal.invariant-loop-k
invariant-loop-k l = (l.shift.number + 1 ≤ l.k) × Raised l.initial.table l.count l.shift.number l.shift.text l.table (l.k - 1)
