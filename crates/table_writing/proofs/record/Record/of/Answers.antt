-- `Record::of` meets its contract: the four fields are the entry's.
use Rattle.table_writing.proofs.Records.{record_is}
use Rattle.table_writing.proofs.record.Record.of.Goals as goal

pub returns-clause-bytes : goal.returns-clause-bytes
returns-clause-bytes c = λ n. record_is c.args.table.now n c.args.parent c.args.k c.args.name _ _ _ c.of.ensures c.place_of.ensures c.size_or_next.ensures
