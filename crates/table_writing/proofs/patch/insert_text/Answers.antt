-- `table_writing::patch::insert_text` meets its contract: the last texts move first, so none is lost.
use Rattle.table_writing.proofs.Inserted.{texts-moved}
use Rattle.table_writing.proofs.patch.insert_text.Goals as goal

pub returns : goal.returns
returns c =
    let s = c in
    cc (texts-moved s.args.table.now s.args.size s.args.count s.args.start s.args.name.now s.requires.start s.requires.room)
