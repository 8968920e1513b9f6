-- What putting one entry in does to the bytes of a written table. Assumes nothing: these are definitions.
use Rattle.std.specs.Prelude.{ℕ, ◌+◌, ◌-◌, List, length, take}
use Rattle.tree.specs.Table.{size_or_next}
use Rattle.tree.specs.Inner.Patch.{records, record_after, patched_record, insert_patch}
use Rattle.table_writing.specs.declared.kind.Kind.{Kind}
use Rattle.table_writing.specs.Inner.Kind.{kind_is_directory}
use Rattle.table_writing.specs.declared.raising.Shift.{Shift}
use Rattle.table_writing.specs.declared.raising.NewEntry.{NewEntry}
use Rattle.table_writing.specs.Inner.Inserting.{new_node, IsPatchable}

-- the records behind the new one of a table of c entries
abbrev pub behind_of : List ℕ → Shift → ℕ → List ℕ
behind_of s h c = records (record_after s h.number h.text) h.number (c - h.number)

-- a table of c entries can take the new one
abbrev pub CanTake : List ℕ → ℕ → NewEntry → Type 0
CanTake s c e = IsPatchable s c e.parent e.number e.start (length e.name.now + 1)

-- all records then
abbrev pub records_with : List ℕ → ℕ → NewEntry → List ℕ
records_with s c e = records (patched_record s e.parent e.number (new_node (kind_is_directory e.kind) e.name.now e.number) e.start) 0 (c + 1)

-- the table in the first `size` bytes with a new entry as the last child of directory p
abbrev pub table_with : List ℕ → ℕ → ℕ → Kind → List ℕ → List ℕ
table_with s size p kind nm = insert_patch (take size s) (size_or_next s 0) p (new_node (kind_is_directory kind) nm (size_or_next s p))
