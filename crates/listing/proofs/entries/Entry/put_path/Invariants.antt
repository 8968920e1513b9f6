-- `Entry::put_path` meets its contract. The invariant of its loop: behind the space stands the path of a directory.
use Prim.Native.Nat.{◌+◌}
use Rattle.tree.specs.Table.{nodes_of}
use Rattle.listing.proofs.LineParts.{Stepping}
use Rattle.listing.proofs.entries.Entry.put_path.Given as goal

abbrev pub invariant-loop-name : goal.invariant-loop-name
invariant-loop-name l = Stepping (nodes_of l.self.table.now) l.self.around.now.numbers l.self.around.now.depth l.initial.text l.text (l.name-index + 1)
