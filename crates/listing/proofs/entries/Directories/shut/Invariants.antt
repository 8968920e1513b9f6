-- `Directories::shut` meets its contract. The invariant of its loop: the entry is nested in the last of the directories or in one around that.
use Rattle.tree.specs.Table.{nodes_of}
use Rattle.listing.specs.Inner.Around.{IsBefore}
use Rattle.listing.proofs.entries.Directories.shut.Given as goal

abbrev pub invariant-loop-self : goal.invariant-loop-self
invariant-loop-self l = IsBefore (nodes_of l.table) l.self l.k

abbrev pub decreases-loop-self : goal.decreases-loop-self
decreases-loop-self l = l.self.depth
