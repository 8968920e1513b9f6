-- `table_writing::record::write_record` meets its contract: its four fields are the entry's bytes.
use native.Mathlib.Omega.{arith}
use Rattle.table_writing.proofs.Records.{record-at}
use Rattle.table_writing.proofs.record.write_record.Goals as goal

pub write-requires-clause-small : goal.write-requires-clause-small
write-requires-clause-small c = omega (arith, c.requires.small, c.of.ensures.name)

pub returns : goal.returns
returns c = record-at _ _ _ _ _ _ _ _ (c.of.ensures.bytes c.args.count) c.write.ensures
