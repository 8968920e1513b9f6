-- `Growing::child` meets its contract: the table in front of the bytes is an accepted one.
use Rattle.table_writing.proofs.StandingTable.{opens-held}
use Rattle.table_writing.specs.Inner.Growth.{tree_in}
use Rattle.table_writing.proofs.growing.Growing.child.Goals as goal

pub new-requires : goal.new-requires
new-requires c = (opens-held _ _ c.args.self.now.words c.args.self.now.stands c.args.k c.requires).0

pub child-requires : goal.child-requires
child-requires c = rw c.new.ensures (opens-held _ _ c.args.self.now.words c.args.self.now.stands c.args.k c.requires).1

pub returns : goal.returns
unfolding tree_in
returns c = rw c.new.ensures at c.child.ensures
