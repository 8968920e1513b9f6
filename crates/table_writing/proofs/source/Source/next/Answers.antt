-- `Source::next` meets its contract: entry k stands in the table.
use native.Mathlib.Omega.{arith}
use Rattle.table_writing.proofs.Sources.{held, valid-seen}
use Rattle.table_writing.proofs.source.Source.next.Goals as goal

pub size_or_next-requires : goal.size_or_next-requires
size_or_next-requires c = omega (arith, held _ _ _ c.args.k c.self.invariant c.self.view_is c.requires)

pub returns-clause-valid : goal.returns-clause-valid
returns-clause-valid c = valid-seen _ _ _ c.self.invariant c.self.view_is
