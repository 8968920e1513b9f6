-- The entry after one and all that is in it. Assumes nothing: this is a definition.
use Rattle.std.specs.Prelude.{ℕ, ◌+◌, List, if◌then◌else◌, slice_index_or}
use Rattle.tree.specs.Table.{Node, empty_root}
use Rattle.tree.specs.Lookup.{is_directory, next_of}

-- the entry after k and all that is in it
abbrev pub after_of : List Node → ℕ → ℕ
after_of nodes k = if is_directory (slice_index_or nodes k empty_root) then next_of (slice_index_or nodes k empty_root) else k + 1
