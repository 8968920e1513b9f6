-- `Layout::first_conflict` meets its contract. The invariant of its loop: what is left has the answer of the whole.
use Rattle.std.proofs.Common.{◌≡◌, [], take, drop}
use Rattle.opened.specs.Faults.{first_conflict}
use Rattle.opened.specs.Inner.Owned.{layout_regions}
use Rattle.opened.proofs.conflicts.Layout.first_conflict.Given as goal

abbrev pub invariant-loop-i : goal.invariant-loop-i
invariant-loop-i l = first_conflict l.disc_end [] (layout_regions l.self) ≡ first_conflict l.disc_end (take l.i (layout_regions l.self)) (drop l.i (layout_regions l.self))
