-- `listing::entries::put_entries` meets its contract. The invariant of its loop: the lines of the entries below k are written, and the directories around the last of them are kept.
use Rattle.tree.specs.Table.{nodes_of}
use Rattle.listing.specs.Inner.Around.{IsBefore}
use Rattle.listing.proofs.LineParts.{Walking}
use Rattle.listing.proofs.entries.put_entries.Given as goal

abbrev pub invariant-loop-k : goal.invariant-loop-k
invariant-loop-k l = IsBefore (nodes_of l.table) l.around l.k × Walking (nodes_of l.table) l.initial.text l.text l.k
