-- `Growing::is_shallow` meets its contract. The invariant of its loop: so many directories around p were passed, and those around the one where
-- it stands are left.
use Rattle.table_writing.proofs.StandingTable.{Counted}
use Rattle.table_writing.specs.Inner.Growing.{growing_tree}
use Rattle.table_writing.proofs.growing.Growing.is_shallow.Given as goal

abbrev pub invariant-loop : goal.invariant-loop
invariant-loop l = Counted (growing_tree l.self) l.p l.around l.counter
