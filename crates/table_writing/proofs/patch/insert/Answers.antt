-- `table_writing::patch::insert` meets its contract: first the texts make room, then the records move, which read only what the texts left as it was.
use Rattle.table_writing.specs.Inner.Kind.{kind_is_directory}
use Rattle.table_writing.proofs.Inserted.{patchable-read, inserted-read}
use borrow.Author.Rules.{rules}
use Rattle.table_writing.proofs.patch.insert.Goals as goal

pub patch_records-requires : goal.patch_records-requires
patch_records-requires c =
    let a = c.args in
    patchable-read a.table.now a.size a.p (kind_is_directory a.kind) a.name.now c.requires _ _ _ c.read_u32-count.ensures c.size_or_next-number.ensures c.new_start-start.ensures _ c.insert_text.ensures

pub returns : goal.returns
returns c = search (inserted-read, rules)
