-- Trees that are the same, images with the table of a tree, and what of an edit its tree fixes
-- (RULES, Same tree, same table). Assumes nothing: these are definitions.
use Rattle.std.specs.Prelude.{ℕ, ◌<◌, ◌≡◌, ◌≢◌, List, map, length, slice_index_or}
use Rattle.header.specs.Verdicts.{fst_size}
use Rattle.tree.specs.Table.{Node, file, directory, empty_root, parent_of, encode}
use Rattle.opened.specs.Opening.{table_of, region_of}
use Rattle.edit_rules.specs.Edits.{Edit, insert_file, insert_directory, make_directories, move_file, resize_file, fill_file, rewrite}

-- an entry by itself: its kind and name, and of a file its offset and size; not where a directory
-- ends
abbrev pub entry_alone : Node → Node
entry_alone (file nm offset size) = file nm offset size
entry_alone (directory nm next) = directory nm 0

-- equal names, order, kinds, offsets and sizes, and each entry in the same directory
pub record IsSameTree (a b : List Node) : Type 0 where
  pub entries : map entry_alone a ≡ map entry_alone b
  pub nesting : (k : ℕ) → k < length a → parent_of a k ≡ parent_of b k

-- the image's table is the written one of that tree, and the header states its size
pub record HasTableOf (image : List ℕ) (nodes : List Node) : Type 0 where
  pub table : table_of image ≡ encode nodes
  pub size : fst_size image ≡ length (encode nodes)

-- the same table, byte for byte, and the same size of it in the header
pub record HaveSameTable (a b : List ℕ) : Type 0 where
  pub table : table_of a ≡ table_of b
  pub size : fst_size a ≡ fst_size b

-- ---- edits

abbrev pub file_size : List Node → ℕ → ℕ
file_size nodes k = (region_of (slice_index_or nodes k empty_root)).size

-- the edit writes a table where it is accepted: every edit but a resize or a fill to the size that
-- the file has
abbrev pub WritesNewTable : List Node → Edit → Type 0
WritesNewTable nodes (insert_file p nm) = Unit {0}
WritesNewTable nodes (insert_directory p nm) = Unit {0}
WritesNewTable nodes (make_directories start path) = Unit {0}
WritesNewTable nodes (move_file k to) = Unit {0}
WritesNewTable nodes (resize_file k n) = n ≢ file_size nodes k
WritesNewTable nodes (fill_file k clip) = length clip ≢ file_size nodes k
WritesNewTable nodes rewrite = Unit {0}

-- and the old tree and the edit fix the new one: of resizes and fills those to fewer bytes. A
-- growth may look for a place, by the free space, and so by where the old table ends
abbrev pub IsFixedByTree : List Node → Edit → Type 0
IsFixedByTree nodes (insert_file p nm) = Unit {0}
IsFixedByTree nodes (insert_directory p nm) = Unit {0}
IsFixedByTree nodes (make_directories start path) = Unit {0}
IsFixedByTree nodes (move_file k to) = Unit {0}
IsFixedByTree nodes (resize_file k n) = n < file_size nodes k
IsFixedByTree nodes (fill_file k clip) = length clip < file_size nodes k
IsFixedByTree nodes rewrite = Unit {0}
