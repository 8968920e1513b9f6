-- `Growing::parent` meets its contract: a directory of a written table stores what it is nested in.
use Rattle.table_writing.proofs.StandingTable.{parent-read, entry-held}
use native.Mathlib.Omega.{arith}
use Rattle.table_writing.proofs.growing.Growing.parent.Goals as goal

pub offset_or_parent-requires : goal.offset_or_parent-requires
offset_or_parent-requires c = omega (arith, entry-held c.args.self.now.bytes.now c.args.self.now.size c.args.self.now.words c.args.self.now.stands c.args.k c.requires.inside)

pub returns : goal.returns
returns c = search parent-read
