-- The fields of an entry's record that its kind gives a meaning. Assumes nothing: these are definitions.
use Rattle.std.specs.Prelude.{ℕ}
use Rattle.tree.specs.Table.{Node, file, directory}

-- a file's offset; a directory has none
abbrev pub offset_of : Node → ℕ
offset_of (file nm offset size) = offset
offset_of (directory nm next) = 0

-- the last field: a file's size, a directory's next
abbrev pub size_or_next_of : Node → ℕ
size_or_next_of (file nm offset size) = size
size_or_next_of (directory nm next) = next
