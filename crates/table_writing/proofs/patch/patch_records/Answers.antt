-- `table_writing::patch::patch_records` meets its contract: the records behind the new one, the new one and those up to its directory are the new ones, and
-- those in between do not change.
use Rattle.table_writing.specs.Inner.Kind.{kind_is_directory}
use Rattle.table_writing.proofs.Passes.{up-to-turn, all-patched}
use borrow.Author.Rules.{rules}
use Rattle.table_writing.proofs.patch.patch_records.Goals as goal

pub patch_up_to-requires : goal.patch_up_to-requires
patch_up_to-requires c =
    let e = c.args.entry.now in
    let r = up-to-turn c.args.table.now c.args.count e.parent e.number (kind_is_directory e.kind) e.name.now e.start c.requires _ c.patch_behind.ensures _ c.write.ensures in
    record { within = r.0; raisable = r.1 }

pub returns : goal.returns
returns c =
    let e = c.args.entry.now in
    all-patched c.args.table.now c.args.count e.parent e.number (kind_is_directory e.kind) e.name.now e.start c.requires _ c.patch_behind.ensures _ c.write.ensures (search rules) _ c.patch_up_to.ensures
