-- `Source::place` meets its contract: entry k stands in the table.
use native.Mathlib.Omega.{arith}
use Rattle.table_writing.proofs.Sources.{held}
use Rattle.table_writing.proofs.source.Source.place.Goals as goal

pub offset_or_parent-requires : goal.offset_or_parent-requires
offset_or_parent-requires c = omega (arith, held _ _ _ c.args.k c.self.invariant c.self.view_is c.requires)
