-- `table::rows::pass_text` meets its contract. The invariant of its loop: the text goes on where the loop is.
use Prim.Native.Nat.{◌+◌, ◌-◌, ◌≤◌}
use mathlib.Core.Path.{◌≡◌}
use lib.ListN.{length}
use Rattle.table.specs.Inner.Texts.{text_at}
use Rattle.table.proofs.rows.pass_text.Given as goal

abbrev pub invariant-loop-at : goal.invariant-loop-at
invariant-loop-at l = (l.from ≤ l.at) × (l.at ≤ l.stop) × (length (text_at l.table l.from) ≡ (l.at - l.from) + length (text_at l.table l.at))

abbrev pub decreases-loop-at : goal.decreases-loop-at
decreases-loop-at l = l.stop - l.at
