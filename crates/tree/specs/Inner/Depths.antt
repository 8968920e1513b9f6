-- How many directories an entry is in. Assumes nothing: this is a definition.
use Rattle.std.specs.Prelude.{ℕ, zero, suc, List, [], ◌∷◌, length, if◌then◌else◌, slice_index_or}
use Rattle.tree.specs.Table.{Node, empty_root, is_enclosing}
use Rattle.tree.specs.Lookup.{next_of}

-- the nexts of the directories below i that entry k is in, the last one first
unfoldable pub open_dirs : List Node → ℕ → ℕ → List ℕ
open_dirs nodes k zero = []
open_dirs nodes k (suc i) = if is_enclosing (slice_index_or nodes i empty_root) k then next_of (slice_index_or nodes i empty_root) ∷ open_dirs nodes k i else open_dirs nodes k i

-- the number of directories around entry k: its depth
abbrev pub depth_of : List Node → ℕ → ℕ
depth_of nodes k = length (open_dirs nodes k k)
