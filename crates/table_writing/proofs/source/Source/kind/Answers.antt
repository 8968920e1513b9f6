-- `Source::kind` meets its contract: entry k stands in the table, and is one of the two kinds.
use Rattle.table_writing.proofs.Sources.{held, valid-seen}
use Rattle.table_writing.proofs.source.Source.kind.Goals as goal

pub of-requires-clause-within : goal.of-requires-clause-within
of-requires-clause-within c = (held _ _ _ c.args.k c.self.invariant c.self.view_is c.requires).whole

pub of-requires-clause-known : goal.of-requires-clause-known
of-requires-clause-known c = (held _ _ _ c.args.k c.self.invariant c.self.view_is c.requires).known

pub returns-clause-valid : goal.returns-clause-valid
returns-clause-valid c = valid-seen _ _ _ c.self.invariant c.self.view_is
