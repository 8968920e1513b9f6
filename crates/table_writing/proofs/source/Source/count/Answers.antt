-- `Source::count` meets its contract: what it holds is the number that its bytes say.
use Rattle.table_writing.proofs.Sources.{counted, valid-seen}
use Rattle.table_writing.proofs.source.Source.count.Goals as goal

pub returns-clause-value : goal.returns-clause-value
returns-clause-value c = counted _ _ _ c.self.invariant c.self.view_is

pub returns-clause-valid : goal.returns-clause-valid
returns-clause-valid c = valid-seen _ _ _ c.self.invariant c.self.view_is
