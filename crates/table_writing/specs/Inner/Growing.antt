-- A table that grows, by what stands in its bytes. Assumes nothing: these are definitions.
use Rattle.std.specs.Prelude.{ℕ, List, Result, Ok, Err}
use Rattle.table_writing.specs.declared.kind.Kind.{Kind}
use Rattle.table_writing.specs.Inner.Kind.{kind_is_directory}
use Rattle.refusal.specs.declared.Refusal.{Refusal}
use Rattle.tree.specs.Table.{Node}
use Rattle.table_writing.specs.declared.growing.Growing.{Growing}
use Rattle.table_writing.specs.Inner.Growth.{tree_in, tree_with_child, IsBuilt}

-- its entries
abbrev pub growing_tree : Growing → List Node
growing_tree g = tree_in g.bytes.now g.size

-- an answer with the size of the table for its number
abbrev pub sized_as : Result ℕ Refusal → ℕ → Result ℕ Refusal
sized_as (Ok number) size = Ok size
sized_as (Err cause) size = Err cause

-- its entries with an empty directory, or an empty file, as last child of p
abbrev pub added_to : Growing → Kind → ℕ → List ℕ → List Node
added_to g kind p nm = tree_with_child (growing_tree g) (kind_is_directory kind) p nm

-- the tree F stands in it afterwards, or cannot
abbrev pub HasBuilt : Growing → Growing → List Node → Result ℕ Refusal → Type 0
HasBuilt old new F result = IsBuilt F old.words old.bytes.now new.bytes.now (sized_as result new.size)
