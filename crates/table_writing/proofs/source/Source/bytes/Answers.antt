-- `Source::bytes` meets its contract: they are those of a table that can be written anew.
use Rattle.table_writing.proofs.Sources.{valid-seen}
use Rattle.table_writing.proofs.source.Source.bytes.Goals as goal

pub returns-clause-valid : goal.returns-clause-valid
returns-clause-valid c = valid-seen _ _ _ c.self.invariant c.self.view_is
