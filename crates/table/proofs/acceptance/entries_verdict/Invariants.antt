-- `table::acceptance::entries_verdict` meets its contract. The invariant of its loop: what is left has the answer of the whole.
use Prim.Native.Nat.{◌-◌}
use mathlib.Core.Path.{◌≡◌}
use Rattle.tree.specs.Table.{entries_verdict}
use Rattle.table.proofs.acceptance.entries_verdict.Given as goal

abbrev pub invariant-loop-k : goal.invariant-loop-k
invariant-loop-k l = entries_verdict l.table 1 (l.count - 1) ≡ entries_verdict l.table l.k (l.count - l.k)
