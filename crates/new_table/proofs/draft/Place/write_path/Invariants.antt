-- `new_table::draft::Place::write_path`: the names from `start` on are written.
use Rattle.std.proofs.Common.{◌-◌}
use Rattle.new_table.proofs.Drafting.{Drafted}
use Rattle.new_table.proofs.draft.Place.write_path.Given as goal

abbrev pub invariant-loop-start : goal.invariant-loop-start
invariant-loop-start l =
    Drafted l.fn.bytes l.path l.ends l.texts l.shared l.fn.self.entry l.fn.self.text l.fn.entry.offset l.fn.entry.size l.start l.n l.place.entry l.place.text l.bytes

abbrev pub decreases-loop-start : goal.decreases-loop-start
decreases-loop-start l = l.start - l.shared
