-- `table::acceptance::shut` meets its contract. The invariant of its loop: those that are left shut to the same as all.
use mathlib.Core.Path.{◌≡◌}
use lib.ListN.{length}
use Rattle.tree.specs.Table.{dirs_open_at}
use Rattle.table.proofs.acceptance.shut.Given as goal

abbrev pub invariant-loop-dirs : goal.invariant-loop-dirs
invariant-loop-dirs l = dirs_open_at l.k l.initial.dirs ≡ dirs_open_at l.k l.dirs

abbrev pub decreases-loop-dirs : goal.decreases-loop-dirs
decreases-loop-dirs l = length l.dirs
