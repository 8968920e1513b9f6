-- The record of an entry that is put in, by what stands in it. Assumes nothing: these are definitions.
use Rattle.std.specs.Prelude.{ℕ, List, []}
use Rattle.tree.specs.Table.{node_bytes}
use Rattle.table_writing.specs.Inner.Kind.{kind_is_directory}
use Rattle.table_writing.specs.Inner.Inserting.{new_node}
use Rattle.table_writing.specs.declared.raising.NewEntry.{NewEntry}

abbrev pub new_bytes : NewEntry → List ℕ
new_bytes e = node_bytes e.parent e.start (new_node (kind_is_directory e.kind) [] e.number)
