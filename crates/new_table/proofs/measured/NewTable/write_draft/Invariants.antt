-- `new_table::measured::NewTable::write_draft`: the files from the i-th on are written.
use Rattle.new_table.proofs.Going.{Going}
use Rattle.new_table.proofs.measured.NewTable.write_draft.Given as goal

abbrev pub invariant-loop-i : goal.invariant-loop-i
invariant-loop-i l =
    Going l.self.paths.now l.self.sizes.now l.offsets l.self.entries l.self.size l.i l.end l.path l.ends l.place.entry l.place.text l.bytes

abbrev pub decreases-loop-i : goal.decreases-loop-i
decreases-loop-i l = l.i
