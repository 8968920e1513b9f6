-- `table::rows::is_without_zero` meets its contract. The invariant of its loop: while the least byte is not zero, the text goes on where the loop is.
use Prim.Native.Nat.{◌+◌, ◌<◌}
use mathlib.Core.Path.{◌≡◌}
use lib.ListN.{length}
use Rattle.table.specs.Inner.Texts.{text_at}
use Rattle.table.proofs.rows.is_without_zero.Given as goal

abbrev pub invariant-loop-i : goal.invariant-loop-i
invariant-loop-i l = 0 < l.least → length (text_at l.table l.at) ≡ l.i + length (text_at l.table (l.at + l.i))
