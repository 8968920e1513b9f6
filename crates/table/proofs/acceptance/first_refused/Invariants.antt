-- `table::acceptance::first_refused` meets its contract. The invariant of its loop: what is left has the answer of the whole.
use Prim.Native.Nat.{◌-◌}
use mathlib.Core.Path.{◌≡◌}
use Rattle.tree.specs.Faults.{first_refused}
use Rattle.table.proofs.acceptance.first_refused.Given as goal

abbrev pub invariant-loop-k : goal.invariant-loop-k
invariant-loop-k l = first_refused l.table 1 (l.count - 1) ≡ first_refused l.table l.k (l.count - l.k)
