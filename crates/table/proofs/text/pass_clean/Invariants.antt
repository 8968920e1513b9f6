-- `table::text::pass_clean` meets its contract: the chart tells which byte is clean, and each clean one is passed.
use Prim.Native.Nat.{◌-◌}
use mathlib.Core.Path.{◌≡◌}
use lib.ListN.{length}
use Rattle.table.specs.Inner.Texts.{is_clean_from, HasNoLead}
use Rattle.table.proofs.Chart.{Charts}
use Rattle.table.proofs.text.pass_clean.Given as goal

abbrev pub invariant-loop-end : goal.invariant-loop-end
invariant-loop-end l = Charts l.chart × HasNoLead l.table l.from l.end × (is_clean_from l.table l.from ≡ is_clean_from l.table l.end)

abbrev pub decreases-loop-end : goal.decreases-loop-end
decreases-loop-end l = length l.table - l.end
