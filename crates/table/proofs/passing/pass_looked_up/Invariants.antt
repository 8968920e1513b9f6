-- `pass_looked_up` meets its contract. The invariant of its loop: the rest has the answer of the whole.
use Prim.Native.Nat.{◌-◌}
use mathlib.Core.Path.{◌≡◌}
use Rattle.table.specs.Inner.Texts.{is_clean_from}
use Rattle.table.proofs.Chart.{Kinds}
use Rattle.table.proofs.passing.pass_looked_up.Given as goal

abbrev pub invariant-loop-at : goal.invariant-loop-at
invariant-loop-at l = Kinds l.kinds l.trails × (is_clean_from l.table l.from ≡ is_clean_from l.table l.at)

abbrev pub decreases-loop-at : goal.decreases-loop-at
decreases-loop-at l = l.last - l.at
