-- The table that stands in the working bytes while entries are added to it. Assumes nothing: these are definitions.
use Rattle.std.specs.Prelude.{Result, Ok, Err, nat_lt, slice_index_or}
use Rattle.refusal.specs.declared.Refusal.{Refusal}
use Rattle.std.specs.Prelude.{ℕ, ◌<◌, ◌≤◌, ◌≡◌, Bool, true, false, List, length, take}
use Rattle.endian.specs.Bytes.{put}
use Rattle.refusal.specs.declared.Refusal.TheVariants.{LimitOrMemory}
use Rattle.tree.specs.Table.{Node, empty_root, nodes_of, encode, limits}
use Rattle.tree.specs.Inner.WellFormed.{IsWellFormed}
use Rattle.tree.specs.Lookup.{is_directory, next_of}
use Rattle.tree.specs.Insert.{insert_at}
use Rattle.table_writing.specs.Inner.Inserting.{new_node}

-- the tree of the table that stands in the first `size` of these bytes
unfoldable pub tree_in : List ℕ → ℕ → List Node
tree_in bytes size = nodes_of (take size bytes)

-- a table written anew stands there, and passes no limit where so many words are lent
pub record Stands (bytes : List ℕ) (size words : ℕ) : Type 0 where
  pub well : IsWellFormed (tree_in bytes size)
  pub same : take size bytes ≡ encode (tree_in bytes size)
  pub held : size ≤ length bytes
  pub within : limits (tree_in bytes size) words ≡ Ok tt

-- entry p is a directory
pub record IsDirectory (nodes : List Node) (p : ℕ) : Type 0 where
  pub inside : p < length nodes
  pub kind : is_directory (slice_index_or nodes p empty_root) ≡ true

-- the tree with an empty directory, or an empty file, as last child of p
abbrev pub tree_with_child : List Node → Bool → ℕ → List ℕ → List Node
tree_with_child nodes d p nm = insert_at p (new_node d nm (next_of (slice_index_or nodes p empty_root))) nodes

-- a new child of a directory of that depth is not too deep: a directory may be 64 deep, the root is 0
abbrev pub is_depth_allowed : Bool → ℕ → Bool
is_depth_allowed true depth = nat_lt depth 64
is_depth_allowed false depth = true

-- the tree F stands in the bytes, or cannot: it passes a limit (9), or its table is longer than they are (9)
abbrev pub IsBuilt : List Node → ℕ → List ℕ → List ℕ → Result ℕ Refusal → Type 0
IsBuilt F words bytes after (Ok size) = (limits F words ≡ Ok tt) × (size ≡ length (encode F)) × (size ≤ length bytes) × (after ≡ put bytes 0 (encode F))
IsBuilt F words bytes after (Err cause) = (cause ≡ LimitOrMemory) × (limits F words ≡ Ok tt → length bytes < length (encode F))
