-- `table::name::text_length` meets its contract. The invariant of its loop: the bytes passed and the rest make the whole, so that the loop is at
-- the zero byte, or before it.
use Prim.Native.Nat.{◌+◌, ◌-◌, ◌≤◌}
use mathlib.Core.Path.{◌≡◌}
use lib.ListN.{length}
use Rattle.table.specs.Inner.Texts.{text_at}
use Rattle.table.proofs.name.text_length.Given as goal

abbrev pub invariant-loop-i : goal.invariant-loop-i
invariant-loop-i l = (l.at ≤ l.i) × (length (text_at l.table l.at) ≡ (l.i - l.at) + length (text_at l.table l.i))

abbrev pub decreases-loop-i : goal.decreases-loop-i
decreases-loop-i l = length l.table - l.i
