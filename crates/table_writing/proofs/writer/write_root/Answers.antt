-- `table_writing::writer::write_root` meets its contract: its four fields are the root's bytes.
use Rattle.table_writing.specs.Inner.Flat.{root_at}
use Rattle.table_writing.proofs.writer.write_root.Goals as goal

pub returns : goal.returns
unfolding root_at
returns c = c.write.ensures
